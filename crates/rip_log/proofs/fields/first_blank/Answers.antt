use Rattle.memchr.specs.Find.{is_byte2}
use Rattle.rip_log.proofs.PlaceLemmas.{first-of}
use Rattle.rip_log.proofs.fields.first_blank.Goals as goal

pub returns : goal.returns
returns c = first-of (is_byte2 32 9) c.args.bytes.now c.memchr2_iter.result c.next.new.self c.next.result c.memchr2_iter.ensures.value c.next.ensures.steps
