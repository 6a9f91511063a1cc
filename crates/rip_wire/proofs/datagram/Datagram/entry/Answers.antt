use Rattle.std.proofs.Common.{◌≡◌, Ok, sym, ap, ◌∙◌, arith, Some, refl}
use Rattle.rip_wire.proofs.ViewLemmas.{numbered}
use Rattle.rip_wire.proofs.datagram.Datagram.entry.Goals as goal

pub overflow_mul-i : goal.overflow_mul-i
overflow_mul-i c = let at = numbered c.args.self.now.bytes.now c.args.i c.args.self.now.whole.readable c.requires.response c.requires.within in let room = at.room in omega arith

pub overflow_add-i : goal.overflow_add-i
overflow_add-i c = let at = numbered c.args.self.now.bytes.now c.args.i c.args.self.now.whole.readable c.requires.response c.requires.within in let room = at.room in omega arith

pub good_entry-requires-clause-room : goal.good_entry-requires-clause-room
good_entry-requires-clause-room c = (numbered c.args.self.now.bytes.now c.args.i c.args.self.now.whole.readable c.requires.response c.requires.within).room

pub good_entry-requires-clause-good : goal.good_entry-requires-clause-good
good_entry-requires-clause-good c =
    let at = numbered c.args.self.now.bytes.now c.args.i c.args.self.now.whole.readable c.requires.response c.requires.within in
    rw at.has.read refl

pub returns : goal.returns
returns c =
    let at = numbered c.args.self.now.bytes.now c.args.i c.args.self.now.whole.readable c.requires.response c.requires.within in
    let same : Ok at.has.entry ≡ Ok c.good_entry.result = sym at.has.read ∙ c.good_entry.ensures in
    at.has.here ∙ ap Some (cc same)
