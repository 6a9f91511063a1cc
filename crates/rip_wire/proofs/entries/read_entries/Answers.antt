use Rattle.std.proofs.Common.{◌≡◌, ◌<◌, ◌++◌, ◌∷◌, [], ℕ, List, Ok, length, take, arith, ap, sym, ◌∙◌, length-set}
use Rattle.std.proofs.lemmas.List.{take_more_set, take_all}
use Rattle.rip_wire.specs.declared.entry.Entry.{Entry}
use Rattle.rip_wire.specs.Message.{entries_at}
use Rattle.rip_wire.proofs.WalkLemmas.{all_entries, good_at, length-entries_at, take-entry}
use Rattle.rip_wire.proofs.entries.read_entries.Goals as goal

pub good_entry-requires-clause-good : goal.good_entry-requires-clause-good
good_entry-requires-clause-good c = good_at c.args.count 4 c.loop-i.i c.args.bytes.now c.requires.good c.loop-i-test.true

pub loop-i-preserved : goal.loop-i-preserved
loop-i-preserved c =
    let i = c.loop-i.i in
    let inv = c.loop-i.invariant in
    let e = c.good_entry.result in
    let room : i < length c.loop-i.room = omega (arith, inv.size, c.requires.few, c.loop-i-test.true) in
    record {
      size = rw length-set inv.size;
      front = λ es h.
          take_more_set c.loop-i.room i e room
          ∙ ap (λ (l : List Entry). l ++ e ∷ []) (inv.front es h)
          ∙ sym (take-entry c.args.count 4 i c.args.bytes.now es e h c.loop-i-test.true c.good_entry.ensures);
    }

pub returns : goal.returns
returns c =
    let all = all_entries (entries_at c.args.count 4 c.args.bytes.now) c.requires.good in
    let inv = c.loop-i.invariant in
    let end : c.loop-i.i ≡ c.args.count = omega (arith, c.loop-i-test.false, c.loop-i.auto) in
    let whole : take c.args.count all.0 ≡ all.0 = take_all c.args.count all.0 (omega (arith, length-entries_at c.args.count 4 c.args.bytes.now all.0 all.1)) in
    let front : take c.args.count c.loop-i.room ≡ all.0 =
    ap (λ (n : ℕ). take n c.loop-i.room) (sym end) ∙ inv.front all.0 all.1 ∙ ap (λ (n : ℕ). take n all.0) end ∙ whole in
    all.1 ∙ ap Ok (sym front)
