use Rattle.std.proofs.Common.{◌≡◌, ℕ, ◌+◌, ◌<◌, inl, inr, Contains, None, Some, slice_get, sym, subst, ap, ◌∙◌, length, arith}
use Rattle.std.proofs.lemmas.Option.{slice_get-get_or}
use Rattle.rip_wire.specs.Prefix.{Block}
use Rattle.rip_plan.specs.PrefixNetworks.{network_for}
use Rattle.rip_routes.specs.OwnTables.{route_at}
use Rattle.rip_check.specs.OwnTells.{IsOver, SendsOver}
use Rattle.rip_check.specs.ToldCells.{AreMarks}
use Rattle.rip_check.proofs.ToldCellLemmas.{SendsOverBefore, block_is, marked, over_on, same_marks, sends_by, sends_here, sends_later}
use Rattle.rip_check.proofs.told_table.mark_hops.Goals as goal
use Rattle.rip_check.proofs.told_table.mark_hops.Goals.{in-Some, in-None}

same_link : (k l : ℕ) → Some k ≡ Some l → k ≡ l
same_link k l e = cc e

no_link : (l : ℕ) → None ≡ Some l → ⊥
no_link l e = cc e

pub bounds-marks-link : goal.bounds-marks-link
bounds-marks-link g c =
    let b = c.prefix-block.result in
    let n = network_for c.args.plan.now b in
    let t = g.G.RouteTables.tables c.args.tables.now in
    let r = c.args.router in
    let p = c.args.prefix in
    let hops = c.next_hops-hops.result.now in
    let k = c.in-Some.link in
    let h = c.hop-item.result in
    let over : IsOver n r p h k = (c.link_of.ensures k).0 c.in-Some.is in
    let listed : Contains (route_at t r p).hops h = rw (sym c.next_hops-hops.ensures) (c.loop-hop.hop-index, c.loop-hop-test.true, sym c.hop-item.is) in
    let on = over_on c.args.plan.now c.lawful.ensures b t r p k h c.requires.router c.requires.fits listed over in
    omega (arith, c.requires.size, c.loop-hop.auto.marks, c.lawful.ensures.link_known on.1.0 r k on.0 on.1.1)

pub loop-hop-preserved : goal.loop-hop-preserved
loop-hop-preserved g c =
    let b = c.prefix-block.result in
    let n = network_for c.args.plan.now b in
    let t = g.G.RouteTables.tables c.args.tables.now in
    let r = c.args.router in
    let p = c.args.prefix in
    let hops = c.next_hops-hops.result.now in
    let j = c.loop-hop.hop-index in
    let h = c.hop-item.result in
    let is : slice_get hops j ≡ Some h = slice_get-get_or hops j h c.loop-hop-test.true ∙ ap Some (sym c.hop-item.is) in
    let Was : ℕ → Type 0 = λ l. SendsOverBefore n r p hops l j in
    let Then : ℕ → Type 0 = λ l. SendsOverBefore n r p hops l (j + 1) in
    elim c.match-link_of.branch [
      | in-Some w ↦
          let k = w.in-Some.link in
          let over : IsOver n r p h k = (c.link_of.ensures k).0 w.in-Some.is in
          let listed : Contains (route_at t r p).hops h = rw (sym c.next_hops-hops.ensures) (j, c.loop-hop-test.true, sym c.hop-item.is) in
          let on = over_on c.args.plan.now c.lawful.ensures b t r p k h c.requires.router c.requires.fits listed over in
          let at : k < length c.loop-hop.marks = omega (arith, c.requires.size, c.loop-hop.auto.marks, c.lawful.ensures.link_known on.1.0 r k on.0 on.1.1) in
          rw w.marks-is (marked Was Then c.loop-hop.marks k at c.loop-hop.invariant (sends_here n r p hops k j h c.loop-hop-test.true is over) (λ l was. sends_later n r p hops l j was)
          (λ l then. elim (sends_by n r p hops l j h is then) [
            | inl here ↦
                inl (sym (same_link k l (sym w.in-Some.is ∙ (c.link_of.ensures l).1 here)))
            | inr was ↦ inr was
          ]))
      | in-None w ↦
          rw w.marks-is (same_marks Was Then c.loop-hop.marks c.loop-hop.invariant (λ l was. sends_later n r p hops l j was)
          (λ l then. elim (sends_by n r p hops l j h is then) [
            | inl here ↦
                absurd (no_link l (sym w.in-None.is ∙ (c.link_of.ensures l).1 here))
            | inr was ↦ was
          ]))
    ]

pub returns : goal.returns
returns g c =
    let b = c.prefix-block.result in
    let n = network_for c.args.plan.now b in
    let t = g.G.RouteTables.tables c.args.tables.now in
    let r = c.args.router in
    let p = c.args.prefix in
    let hops = c.next_hops-hops.result.now in
    let is : AreMarks (λ l. SendsOver n t r l p) c.loop-hop.marks =
    same_marks (λ l. SendsOverBefore n r p hops l c.loop-hop.hop-index) (λ l. SendsOver n t r l p) c.loop-hop.marks c.loop-hop.invariant
    (λ l over.
    let listed : Contains hops over.0 = (over.1.0, over.1.2, over.1.3) in
    (over.0, rw c.next_hops-hops.ensures at listed, over.2))
    (λ l over.
    let listed : Contains hops over.0 = rw c.next_hops-hops.ensures over.1 in
    (over.0, (listed.0, omega (arith, listed.1, c.loop-hop-test.false), listed.1, listed.2), over.2)) in
    subst (λ (x : Block). AreMarks (λ l. SendsOver (network_for c.args.plan.now x) t r l p) c.loop-hop.marks) (sym (block_is t.prefixes p b c.prefix-block.ensures)) is
