use Rattle.std.proofs.Common.{◌≡◌, ◌∙◌, ℕ, take, sym, ap, is_ok}
use Rattle.rip_wire.specs.Datagram.{entries_of, message_of}
use Rattle.rip_wire.specs.Message.{entries_at, groups_in}
use Rattle.rip_wire.proofs.BindLemmas.{same_Ok}
use Rattle.rip_wire.proofs.ViewLemmas.{entries_whole, groups_are_entries}
use Rattle.rip_wire.proofs.datagram.Datagram.read_entries.Goals as goal

pub read_entries-requires-clause-good : goal.read_entries-requires-clause-good
read_entries-requires-clause-good c =
    let b = c.args.self.now.bytes.now in
    let count : c.len-count.result ≡ groups_in b = c.len-count.ensures.entries c.requires ∙ sym (groups_are_entries b c.args.self.now.whole.readable c.requires) in
    ap (λ (n : ℕ). is_ok (entries_at n 4 b)) count ∙ ap is_ok (entries_whole b c.args.self.now.whole.readable c.requires)

pub returns-clause-entries : goal.returns-clause-entries
returns-clause-entries c =
    let b = c.args.self.now.bytes.now in
    let count : c.len-count.result ≡ groups_in b = c.len-count.ensures.entries c.requires ∙ sym (groups_are_entries b c.args.self.now.whole.readable c.requires) in
    same_Ok (take c.len-count.result c.read_entries.new.room) (entries_of (message_of c.args.self.now))
    (sym c.read_entries.ensures ∙ ap (λ (n : ℕ). entries_at n 4 b) count ∙ entries_whole b c.args.self.now.whole.readable c.requires)
