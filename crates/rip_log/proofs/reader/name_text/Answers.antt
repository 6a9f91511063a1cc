use Rattle.std.proofs.lemmas.Str.{IsUtf8-from_ascii}
use Rattle.rip_log.proofs.reader.name_text.Goals as goal

pub from_utf8_unchecked-requires : goal.from_utf8_unchecked-requires
from_utf8_unchecked-requires c =
    let name = c.args.name.now in
    IsUtf8-from_ascii name (c.names.ensures.ascii name ((c.names.ensures.exact name).0 c.requires))
