use Rattle.std.proofs.Common.{◌≡◌, ◌≤◌, false, get_or, if◌then◌else◌, length, refl, arith}
use Rattle.std.proofs.lemmas.Bool.Decides.{not_from_Decides}
use Rattle.rip_plan.specs.Relations.{Exchanges}
use Rattle.rip_check.proofs.NetLemmas.{its}
use Rattle.rip_check.proofs.OwnedLemmas.{every, its_number}
use Rattle.rip_check.proofs.ToldCellLemmas.{written}
use Rattle.rip_check.proofs.told_table.write_cells.Goals as goal
use Rattle.rip_check.proofs.told_table.write_cells.Goals.{then-exchanges, else-exchanges}

pub interface-own-requires : goal.interface-own-requires
interface-own-requires c = its_number c.args.plan.now c.args.router c.of_router-numbers.result.now c.of_router-numbers.ensures.exact c.loop-i.i-index c.loop-i-test.true

pub shown_on-requires : goal.shown_on-requires
shown_on-requires c =
    let own = c.interface-own.result in
    omega (arith, c.requires.marks, c.lawful.ensures.link_known _ own.router own.link own.cost c.interface-own.ensures.is)

pub bounds-row-i : goal.bounds-row-i
bounds-row-i c =
    let at = its_number c.args.plan.now c.args.router c.of_router-numbers.result.now c.of_router-numbers.ensures.exact c.loop-i.i-index c.loop-i-test.true in
    omega (arith, at, c.requires.row, c.loop-i.auto.row)

pub exchanges-requires : goal.exchanges-requires
exchanges-requires c = c.lawful.ensures.link_known _ _ _ _ c.interface-own.ensures.is

pub loop-i-preserved : goal.loop-i-preserved
loop-i-preserved c =
    let n = c.args.plan.now in
    let b = c.args.block in
    let r = c.args.router in
    let numbers = c.of_router-numbers.result.now in
    let k = c.loop-i.i-index in
    let own = c.interface-own.result in
    let size : length n.interfaces ≤ length c.loop-i.row = omega (arith, c.requires.row, c.loop-i.auto.row) in
    let more = written n b r c.args.metric c.args.marks.now numbers c.args.row.now c.of_router-numbers.ensures.exact c.of_router-numbers.ensures.ascending k in
    elim c.if-exchanges.branch [
      | then-exchanges w ↦
          rw w.row-is (more w.shown_on.result own c.loop-i.row c.loop-i-test.true c.interface-own.ensures.is size c.loop-i.invariant (λ yes. w.shown_on.ensures)
          (λ no. absurd (no (c.exchanges.ensures.0 w.if-exchanges.true))))
      | else-exchanges w ↦
          rw w.row-is (more 0 own c.loop-i.row c.loop-i-test.true c.interface-own.ensures.is size c.loop-i.invariant
          (λ yes. absurd (not_from_Decides c.exchanges.result c.exchanges.ensures w.if-exchanges.false yes)) (λ no. refl))
    ]

pub returns-clause-own : goal.returns-clause-own
returns-clause-own c = λ i l d there.
    let n = c.args.plan.now in
    let b = c.args.block in
    let r = c.args.router in
    let was = its n c.lawful.ensures b i r l d c.requires.router there in
    every n r c.of_router-numbers.result.now c.of_router-numbers.ensures.exact (λ j k. Exchanges n k b → get_or c.loop-i.row j 0 ≡ (if get_or c.args.marks.now k false then 0 else c.args.metric))
    c.loop-i.i-index c.loop-i-test.false c.loop-i.invariant.own i l d was.0 was.1

pub returns-clause-closed : goal.returns-clause-closed
returns-clause-closed c = λ i l d there shut.
    let n = c.args.plan.now in
    every n c.args.router c.of_router-numbers.result.now c.of_router-numbers.ensures.exact (λ j k. (Exchanges n k c.args.block → ⊥) → get_or c.loop-i.row j 0 ≡ 0)
    c.loop-i.i-index c.loop-i-test.false c.loop-i.invariant.closed i l d there shut
