use Rattle.std.proofs.Common.{ℕ, ◌<◌, ◌≤◌, List, get_or, length, inl, inr, arith}
use Rattle.std.proofs.Math.Logic.{∥∥₁_elim}
use Rattle.std.proofs.lemmas.Bool.{both_ways, cases_Bool, cases_eq}
use Rattle.std.proofs.lemmas.Option.{slice_get-get_or}
use Rattle.std.specs.Coded.{le_prop}
use mathlib.Core.HLevel.{⊥_prop}
use Rattle.rip_plan.specs.Network.{Network}
use Rattle.rip_plan.specs.PrefixNetworks.{exchanges}
use Rattle.rip_plan.specs.Relations.{Exchanges, HasCost, IsLawful}
use Rattle.rip_plan.proofs.PrefixNetworkLemmas.{exchange}
use Rattle.rip_table.specs.State.{State}
use Rattle.rip_check.specs.declared.links.TwoLeast.{TwoLeast}
use Rattle.rip_check.specs.Cases.{block_of, network_of, told_in}
use Rattle.rip_check.specs.Networks.{block_at}
use Rattle.rip_check.specs.TwoLeasts.{AreLeastShown, IsClosed, IsLeastShown, shown_of}
use Rattle.rip_check.proofs.AcrossLemmas.{offer_seen, offered_or_not, seen_offer}
use Rattle.rip_check.proofs.NetLemmas.{cost_here, its_cost}
use Rattle.rip_check.proofs.offers.best_over.Goals as goal

abbrev blank : TwoLeast
blank = record { least = 0; by = 0; next = 0 }

module _ (n : Network) (laws : IsLawful n) (shown : State) (r l c p : ℕ) (links : List TwoLeast) (cost : HasCost n r l c) (known : AreLeastShown n shown p links) where
  -- what is known of the link of an interface
  known_there : l < length links
  known_there = omega (arith, laws.link_known cost.0 r l c cost.1, known.size)

  least_there : IsLeastShown n shown p l (get_or links l blank)
  least_there = known.each l (get_or links l blank) (laws.link_known cost.0 r l c cost.1) (slice_get-get_or links l blank known_there)

  next_most : (get_or links l blank).next ≤ 16
  next_most = elim (cases_eq (get_or links l blank).by 255) [
    | inl e ↦ omega (arith, (least_there.shut_is e).2)
    | inr e ↦ (least_there.open_is e).1.most
  ]

  least_most : (get_or links l blank).least ≤ 16
  least_most = elim (cases_eq (get_or links l blank).by 255) [
    | inl e ↦ omega (arith, (least_there.shut_is e).1)
    | inr e ↦ omega (arith, (least_there.open_is e).1.order, (least_there.open_is e).1.most)
  ]

  opened : Exchanges n l (block_at shown.prefixes p) → IsClosed (get_or links l blank) → ⊥
  opened is shut = (least_there.shut_is shut).0 is

pub bounds-links-own : goal.bounds-links-own
bounds-links-own g c =
    let case = c.args.case.now in
    let own = c.args.own in
    ∥∥₁_elim case.least le_prop (λ known. known_there case.plan.now c.lawful.ensures.plan (told_in case) own.router own.link own.cost case.prefix c.in-Some.links.now c.requires.own (rw c.in-Some.is at known))

pub offset_bounds-links-own : goal.offset_bounds-links-own
offset_bounds-links-own g c =
    let own = c.args.own in
    omega (arith, c.lawful.ensures.plan.link_known c.requires.own.0 own.router own.link own.cost c.requires.own.1, c.lawful.ensures.plan.few_links)

pub least_told-requires-clause-least : goal.least_told-requires-clause-least
least_told-requires-clause-least g c =
    let case = c.args.case.now in
    let own = c.args.own in
    ∥∥₁_elim case.least le_prop (λ known. least_most case.plan.now c.lawful.ensures.plan (told_in case) own.router own.link own.cost case.prefix c.in-Some.links.now c.requires.own (rw c.in-Some.is at known))

pub least_told-requires-clause-next : goal.least_told-requires-clause-next
least_told-requires-clause-next g c =
    let case = c.args.case.now in
    let own = c.args.own in
    ∥∥₁_elim case.least le_prop (λ known. next_most case.plan.now c.lawful.ensures.plan (told_in case) own.router own.link own.cost case.prefix c.in-Some.links.now c.requires.own (rw c.in-Some.is at known))

pub returns-in-Some-clause-least : goal.returns-in-Some-clause-least
returns-in-Some-clause-least g c = λ s v o.
    let case = c.args.case.now in
    let n = case.plan.now in
    let own = c.args.own in
    let links = c.in-Some.links.now in
    let laws = c.lawful.ensures.plan in
    let at = laws.router_known _ _ _ _ c.requires.own.1 in
    let exchanged = (its_cost n laws (block_of case) own.router own.link o.cost at o.here).1 in
    let here = cost_here n laws (block_of case) own.router own.link own.cost c.requires.own exchanged in
    ∥∥₁_elim case.least le_prop (λ known.
    let shown : AreLeastShown n (told_in case) case.prefix links = rw c.in-Some.is at known in
    let free = opened n laws (told_in case) own.router own.link own.cost case.prefix links c.requires.own shown exchanged in
    let is = ((least_there n laws (told_in case) own.router own.link own.cost case.prefix links c.requires.own shown).open_is free).1 in
    let h = offer_seen (network_of case) (told_in case) own.router own.link case.prefix own.cost here c.lawful.ensures.network s v o in
    let le = c.least_told.ensures.least (network_of case) (shown_of (told_in case) case.prefix) o.interface s h.0 is h.1 o.neighbour.other in
    omega (arith, le, h.2, c.least_told.ensures.at_most, c.requires.best))

-- where it is known that what was found is offered or the best, it can be looked up which
pub returns-in-Some-clause-chosen : goal.returns-in-Some-clause-chosen
returns-in-Some-clause-chosen g c =
    let case = c.args.case.now in
    let n = case.plan.now in
    let own = c.args.own in
    let links = c.in-Some.links.now in
    let found = c.least_told.result in
    let laws = c.lawful.ensures.plan in
    let d = exchange n laws (block_of case) own.link in
    elim (cases_eq found c.args.best) [
      | inl e ↦ inl e
      | inr less ↦ elim (cases_Bool (exchanges n (block_of case) own.link)) [
        | inr e ↦ absurd (∥∥₁_elim case.least ⊥_prop (λ known.
            let shown : AreLeastShown n (told_in case) case.prefix links = rw c.in-Some.is at known in
            let is = least_there n laws (told_in case) own.router own.link own.cost case.prefix links c.requires.own shown in
            elim (cases_eq (get_or links own.link blank).by 255) [
              | inl shut ↦ less (c.least_told.ensures.nothing (is.shut_is shut).1 (is.shut_is shut).2)
              | inr free ↦ both_ways _ e (d.1 (is.open_is free).0)
            ]))
        | inl e ↦
            let exchanged = d.0 e in
            let here = cost_here n laws (block_of case) own.router own.link own.cost c.requires.own exchanged in
            elim (offered_or_not (network_of case) (told_in case) own.router own.link case.prefix own.cost here c.lawful.ensures.network found) [
              | inl o ↦ inr o
              | inr none ↦ absurd (∥∥₁_elim case.least ⊥_prop (λ known.
                  let shown : AreLeastShown n (told_in case) case.prefix links = rw c.in-Some.is at known in
                  let free = opened n laws (told_in case) own.router own.link own.cost case.prefix links c.requires.own shown exchanged in
                  let is = ((least_there n laws (told_in case) own.router own.link own.cost case.prefix links c.requires.own shown).open_is free).1 in
                  elim (c.least_told.ensures.chosen (network_of case) (shown_of (told_in case) case.prefix) is) [
                    | inl e ↦ less e
                    | inr h ↦ none (seen_offer (network_of case) (told_in case) own.router own.link case.prefix own.cost here h.0 h.1 h.2 found h.3 h.4
                        (omega (arith, h.5, c.least_told.ensures.at_most, c.requires.best)))
                  ]))
            ]
      ]
    ]
