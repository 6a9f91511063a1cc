use Rattle.std.proofs.Common.{◌≡◌, ◌⊎◌, ◌<◌, ◌+◌, ℕ, List, Some, ap, arith, get_or, inl, inr, length, sym, ◌∙◌}
use Rattle.std.specs.Prelude.{slice_get}
use Rattle.std.specs.List.{Contains}
use Rattle.std.proofs.lemmas.Option.{same_Some, slice_get_within, slice_get-get_or}
use Rattle.rip_plan.specs.declared.parts.Interface.{Interface}
use Rattle.rip_plan.specs.Network.{Network}
use Rattle.rip_plan.specs.Relations.{IsInterface}
use Rattle.rip_plan.proofs.BelowLemmas.{at_contains, contains_at}
use Rattle.rip_plan.proofs.plan.Plan.number_on.Goals as goal

-- a number of the list is an interface's of the router
of_it : (n : Network) (r : ℕ) (numbers : List ℕ) (j : ℕ) → ((i : ℕ) → Contains numbers i → (l c : ℕ) × IsInterface n i r l c) → j < length numbers → (l c : ℕ) × IsInterface n (get_or numbers j 0) r l c
of_it n r numbers j exact lt = exact (get_or numbers j 0) (contains_at numbers j _ (slice_get-get_or numbers j 0 lt))

below_or_at : (k j : ℕ) → k < j + 1 → (k < j) ⊎ (k ≡ j)
below_or_at k j h = grind arith

pub interface-own-requires : goal.interface-own-requires
interface-own-requires c =
    let (l, cost, is) = of_it c.args.self.now c.args.router c.of_router-numbers.result.now c.loop-j.j (λ i. (c.of_router-numbers.ensures.exact i).0) c.loop-j-test.true in
    slice_get_within c.args.self.now.interfaces _ is.interface is.listed

pub returns-then-own-link : goal.returns-then-own-link
returns-then-own-link c = λ i.
    let n = c.args.self.now in
    let numbers = c.of_router-numbers.result.now in
    let (l, cost, is) = of_it n c.args.router numbers c.loop-j.j (λ i. (c.of_router-numbers.ensures.exact i).0) c.loop-j-test.true in
    let same : c.interface-own.result ≡ is.interface = same_Some _ _ (sym c.interface-own.ensures.exact ∙ is.listed) in
    let link : l ≡ c.args.link = sym is.link ∙ ap (λ (x : Interface). x.link) (sym same) ∙ c.if-own-link.true in
    let there : IsInterface n (get_or numbers c.loop-j.j 0) c.args.router c.args.link cost = rw link at is in (
      λ e. let number : get_or numbers c.loop-j.j 0 ≡ i = cc e in (cost, rw number at there),
      λ h. ap Some (c.lawful.ensures.one_on_link _ i c.args.router c.args.link cost h.0 there h.1),
    )

pub loop-j-preserved : goal.loop-j-preserved
loop-j-preserved c k i cost below at is =
    elim (below_or_at k c.loop-j.j below) [
      | inl before ↦ c.loop-j.invariant k i cost before at is
      | inr here ↦
          let number : get_or c.of_router-numbers.result.now c.loop-j.j 0 ≡ i = same_Some _ _ (sym (slice_get-get_or c.of_router-numbers.result.now c.loop-j.j 0 c.loop-j-test.true) ∙ rw here at at) in
          let same : c.interface-own.result ≡ is.interface = same_Some _ _ (sym c.interface-own.ensures.exact ∙ ap (slice_get c.args.self.now.interfaces) number ∙ is.listed) in
          c.if-own-link.false (ap (λ (x : Interface). x.link) same ∙ is.link)
    ]

pub returns : goal.returns
returns c = λ i. (λ e. cc e, λ h. absurd (none h.0 i h.1))
  where
    none : (cost i : ℕ) → IsInterface c.args.self.now i c.args.router c.args.link cost → ⊥
    none cost i is =
        let (k, at) = at_contains c.of_router-numbers.result.now i ((c.of_router-numbers.ensures.exact i).1 (c.args.link, cost, is)) in
        c.loop-j.invariant k i cost (omega (arith, slice_get_within c.of_router-numbers.result.now k i at)) at is
