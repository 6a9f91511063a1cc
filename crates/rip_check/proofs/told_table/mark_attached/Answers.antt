use Rattle.std.proofs.Common.{◌≡◌, ◌⊎◌, ℕ, inl, inr, true, false, None, Some, refl, sym, subst, ◌∙◌, arith}
use Rattle.std.proofs.lemmas.Bool.Decides.{not_from_Decides}
use Rattle.rip_wire.specs.Prefix.{Block}
use Rattle.rip_plan.specs.PrefixNetworks.{network_for}
use Rattle.rip_plan.specs.Relations.{Exchanges}
use Rattle.rip_check.specs.Networks.{block_at, network_at}
use Rattle.rip_check.specs.OwnTells.{SendsOver}
use Rattle.rip_check.specs.ToldCells.{IsHereOn}
use Rattle.rip_check.proofs.NetLemmas.{attached}
use Rattle.rip_check.proofs.ToldCellLemmas.{block_is, marked, same_marks}
use Rattle.rip_check.proofs.told_table.mark_attached.Goals as goal

pub bounds-marks-link : goal.bounds-marks-link
bounds-marks-link g c =
    let attached = (c.in-Some.ensures c.in-Some.link).0 refl in
    let on = c.lawful.ensures.attached_there c.args.router c.args.prefix c.in-Some.link attached in
    omega (arith, c.requires.size, c.lawful.ensures.link_known on.1.0 c.args.router c.in-Some.link on.0 on.1.1)

pub exchanges-requires : goal.exchanges-requires
exchanges-requires g c =
    let on = c.lawful.ensures.attached_there c.args.router c.args.prefix c.in-Some.link ((c.in-Some.ensures c.in-Some.link).0 refl) in
    c.lawful.ensures.link_known on.1.0 c.args.router c.in-Some.link on.0 on.1.1

pub returns-then-exchanges : goal.returns-then-exchanges
returns-then-exchanges g c =
    let t = g.G.RouteTables.tables c.args.tables.now in
    let r = c.args.router in
    let p = c.args.prefix in
    let b = block_at t.prefixes p in
    let n = network_for c.args.plan.now b in
    let k = c.in-Some.link in
    let was = (c.in-Some.ensures k).0 refl in
    let on = c.lawful.ensures.attached_there r p k was in
    let open_there : Exchanges c.args.plan.now k b = subst (λ (x : Block). Exchanges c.args.plan.now k x) (sym (block_is t.prefixes p _ c.prefix.ensures)) (c.exchanges.ensures.0 c.if-exchanges.true) in
    let at = (attached c.args.plan.now c.lawful.ensures b r p k).1 (was, open_there) in
    let here = sym c.is_here.ensures ∙ c.if-is_here.true in
    marked (λ l. SendsOver n t r l p) (λ l. SendsOver n t r l p ⊎ IsHereOn n t r p l) c.args.marks.now k
    (omega (arith, c.requires.size, c.lawful.ensures.link_known on.1.0 r k on.0 on.1.1)) c.requires.marks (inr (at, here)) (λ l over. inl over)
    (λ l h. elim h [
      | inl over ↦ inr over
      | inr own ↦
          let e : Some k ≡ Some l = (c.in-Some.ensures l).1 ((attached c.args.plan.now c.lawful.ensures b r p l).0 own.0).0 in
          let e' : k ≡ l = cc e in
          inl (sym e')
    ])

pub returns-else-exchanges : goal.returns-else-exchanges
returns-else-exchanges g c =
    let t = g.G.RouteTables.tables c.args.tables.now in
    let r = c.args.router in
    let p = c.args.prefix in
    let b = block_at t.prefixes p in
    let n = network_for c.args.plan.now b in
    let k = c.in-Some.link in
    same_marks (λ l. SendsOver n t r l p) (λ l. SendsOver n t r l p ⊎ IsHereOn n t r p l) c.args.marks.now c.requires.marks (λ l over. inl over)
    (λ l h. elim h [
      | inl over ↦ over
      | inr own ↦
          let was = (attached c.args.plan.now c.lawful.ensures b r p l).0 own.0 in
          let e : Some k ≡ Some l = (c.in-Some.ensures l).1 was.0 in
          let e' : l ≡ k = cc e in
          let there : Exchanges c.args.plan.now k b = subst (λ (m : ℕ). Exchanges c.args.plan.now m b) e' was.1 in
          absurd (not_from_Decides c.exchanges.result c.exchanges.ensures c.if-exchanges.false (subst (λ (x : Block). Exchanges c.args.plan.now k x) (block_is t.prefixes p _ c.prefix.ensures) there))
    ])

pub returns-in-None : goal.returns-in-None
returns-in-None g c =
    let t = g.G.RouteTables.tables c.args.tables.now in
    let r = c.args.router in
    let p = c.args.prefix in
    let b = block_at t.prefixes p in
    let n = network_for c.args.plan.now b in
    same_marks (λ l. SendsOver n t r l p) (λ l. SendsOver n t r l p ⊎ IsHereOn n t r p l) c.args.marks.now c.requires.marks (λ l over. inl over)
    (λ l h. elim h [
      | inl over ↦ over
      | inr own ↦
          let none : None ≡ Some l = sym c.in-None.is ∙ (c.attached_link.ensures l).1 ((attached c.args.plan.now c.lawful.ensures b r p l).0 own.0).0 in
          absurd cc
    ])

pub returns-else-is_here : goal.returns-else-is_here
returns-else-is_here g c =
    let t = g.G.RouteTables.tables c.args.tables.now in
    let r = c.args.router in
    let p = c.args.prefix in
    let n = network_at c.args.plan.now t.prefixes p in
    same_marks (λ l. SendsOver n t r l p) (λ l. SendsOver n t r l p ⊎ IsHereOn n t r p l) c.args.marks.now c.requires.marks (λ l over. inl over)
    (λ l h. elim h [
      | inl over ↦ over
      | inr own ↦
          let e : true ≡ false = sym (c.is_here.ensures ∙ own.1) ∙ c.if-is_here.false in
          absurd cc
    ])
