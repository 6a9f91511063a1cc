use Rattle.std.proofs.Common.{◌≡◌, ℕ, true, false, Option, None, Some, is_some, refl, sym, ◌∙◌}
use Rattle.std.proofs.lemmas.Bool.Decides.{not_from_Decides}
use Rattle.rip_check.specs.OwnTells.{IsHadOn}
use Rattle.rip_plan.specs.PrefixNetworks.{network_for}
use Rattle.rip_check.proofs.HopLemmas.{IsOneSoFar, had_stays, had_was, not_one, one_of_all, one_with, one_without}
use Rattle.rip_check.proofs.NetLemmas.{its_on}
use Rattle.rip_check.proofs.OwnedLemmas.{its_number, its_router}
use Rattle.rip_check.proofs.told_table.only_link_with.Goals as goal
use Rattle.rip_check.proofs.told_table.only_link_with.Goals.{then-exchanges+then-is_had_over+else-is_some, else-exchanges, else-exchanges-via-then-exchanges+else-is_had_over, else-exchanges-via-else-exchanges}

-- what is there
some_there : (o : Option ℕ) → is_some o ≡ true → (v : ℕ) × (o ≡ Some v)
some_there None e = absurd cc
some_there (Some v) e = (v, refl)

none_there : (o : Option ℕ) → is_some o ≡ false → o ≡ None
none_there None e = refl
none_there (Some v) e = absurd cc

pub interface-own-requires : goal.interface-own-requires
interface-own-requires c = its_number c.args.plan.now c.args.router c.of_router-numbers.result.now c.of_router-numbers.ensures.exact c.loop-i.i-index c.loop-i-test.true

pub exchanges-requires : goal.exchanges-requires
exchanges-requires c = c.lawful.ensures.link_known _ _ _ _ c.interface-own.ensures.is

pub returns-then-is_some : goal.returns-then-is_some
returns-then-is_some c = λ l.
    let n = c.args.plan.now in
    let b = c.args.block in
    let r = c.args.router in
    let p = c.args.prefix in
    let a = c.args.address in
    let numbers = c.of_router-numbers.result.now in
    let exact = c.of_router-numbers.ensures.exact in
    let k = c.loop-i.i-index in
    let own = c.interface-own.result in
    let Had : ℕ → Type 0 = λ q. IsHadOn (network_for n b) r p a q in
    let same = its_router n r numbers exact k own c.loop-i-test.true c.interface-own.ensures.is in
    let there : IsHadOn n r p a own.link = rw same at (c.is_had_over.ensures.0 c.if-is_had_over.true) in
    let had = had_stays n c.lawful.ensures b r p a own.link (c.exchanges.ensures.0 c.if-exchanges.true) there in
    let found = some_there c.loop-i.found (sym c.is_some.ensures ∙ c.if-is_some.true) in
    let was : IsOneSoFar n r Had numbers k (Some found.0) = rw found.1 at c.loop-i.invariant in (
      λ e. cc e,
      λ h. absurd (not_one n r Had numbers exact c.lawful.ensures c.of_router-numbers.ensures.ascending k found.0 l own c.loop-i-test.true c.interface-own.ensures.is was had h.1),
    )

pub loop-i-preserved : goal.loop-i-preserved
loop-i-preserved c =
    let n = c.args.plan.now in
    let b = c.args.block in
    let r = c.args.router in
    let p = c.args.prefix in
    let a = c.args.address in
    let numbers = c.of_router-numbers.result.now in
    let exact = c.of_router-numbers.ensures.exact in
    let k = c.loop-i.i-index in
    let own = c.interface-own.result in
    let is = c.interface-own.ensures.is in
    let Had : ℕ → Type 0 = λ q. IsHadOn (network_for n b) r p a q in
    let same = its_router n r numbers exact k own c.loop-i-test.true is in
    elim c.if-exchanges.branch [
      | then-exchanges+then-is_had_over+else-is_some w ↦
          let there : IsHadOn n r p a own.link = rw same at (w.is_had_over.ensures.0 w.if-is_had_over.true) in
          let had = had_stays n c.lawful.ensures b r p a own.link (c.exchanges.ensures.0 w.if-exchanges.true) there in
          let none = none_there c.loop-i.found (sym w.is_some.ensures ∙ w.if-is_some.false) in
          let was : IsOneSoFar n r Had numbers k None = rw none at c.loop-i.invariant in
          rw w.found-is (one_with n r Had numbers exact k own c.loop-i-test.true is was had)
      | else-exchanges w ↦
          rw w.found-is (one_without n r Had numbers exact k own c.loop-i.found is c.loop-i.invariant
          (λ had.
          let was = had_was n c.lawful.ensures b r p a own.link c.requires had in
          elim w.else-exchanges.branch [
            | else-exchanges-via-then-exchanges+else-is_had_over q ↦ not_from_Decides q.is_had_over.result q.is_had_over.ensures q.if-is_had_over.false (rw same was.0)
            | else-exchanges-via-else-exchanges q ↦ not_from_Decides c.exchanges.result c.exchanges.ensures q.if-exchanges.false was.1
          ]))
    ]

pub returns : goal.returns
returns c =
    let n = c.args.plan.now in
    let b = c.args.block in
    let r = c.args.router in
    let Had : ℕ → Type 0 = λ q. IsHadOn (network_for n b) r c.args.prefix c.args.address q in
    one_of_all n r Had c.of_router-numbers.result.now c.of_router-numbers.ensures.exact (λ q had. (its_on n c.lawful.ensures b r q c.requires had.1.neighbour.here).0) c.loop-i.i-index c.loop-i.found
    c.loop-i-test.false c.loop-i.invariant
