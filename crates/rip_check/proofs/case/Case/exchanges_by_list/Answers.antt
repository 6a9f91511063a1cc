use Rattle.std.proofs.Common.{◌≡◌, ◌⊎◌, inl, inr, ◌<◌, Bool, true, false, Decides, get_or, length, not, ap, sym, ◌∙◌, arith}
use Rattle.std.proofs.Math.Logic.{∥∥₁_elim}
use Rattle.std.proofs.lemmas.Bool.{both_ways, cases_Bool, not-true}
use Rattle.std.proofs.lemmas.Bool.Decides.{not_from_Decides}
use Rattle.std.proofs.lemmas.Option.{slice_get-get_or}
use Rattle.std.specs.Coded.{Coded-set, coded_bool, le_prop}
use Rattle.rip_plan.specs.PrefixNetworks.{exchanges}
use Rattle.rip_plan.proofs.PrefixNetworkLemmas.{exchange}
use Rattle.rip_check.specs.Cases.{block_of, told_in}
use Rattle.rip_check.specs.TwoLeasts.{AreLeastShown}
use Rattle.rip_check.specs.declared.links.TwoLeast.{TwoLeast}
use Rattle.rip_check.proofs.case.Case.exchanges_by_list.Goals as goal

pub offset_bounds-links-link : goal.offset_bounds-links-link
offset_bounds-links-link g c = omega (arith, c.requires, c.lawful.ensures.few_links)

pub bounds-links-link : goal.bounds-links-link
bounds-links-link g c =
    let case = c.args.self.now in
    ∥∥₁_elim case.least le_prop (λ known. let is : AreLeastShown case.plan.now (told_in case) case.prefix c.in-Some.links.now = rw c.in-Some.is at known in omega (arith, c.requires, is.size))

abbrev blank : TwoLeast
blank = record { least = 0; by = 0; next = 0 }

alike : (a b : Bool) (P : Type 0) → Decides a P → Decides b P → a ≡ b
alike a b P is was = by_cases (cases_Bool a)
  where
    by_cases : (a ≡ true) ⊎ (a ≡ false) → a ≡ b
    by_cases (inl e) = e ∙ sym (was.1 (is.0 e))
    by_cases (inr e) = elim (cases_Bool b) [
      | inl f ↦ absurd (both_ways a e (is.1 (was.0 f)))
      | inr f ↦ e ∙ sym f
    ]

pub returns-in-Some : goal.returns-in-Some
returns-in-Some g c =
    let case = c.args.self.now in
    let l = c.args.link in
    let links = c.in-Some.links.now in
    let two : TwoLeast = get_or links l blank in
    let d = exchange case.plan.now c.lawful.ensures (block_of case) l in
    let same : not c.is_closed.result ≡ exchanges case.plan.now (block_of case) l = ∥∥₁_elim case.least (Coded-set coded_bool _ _) (λ known.
    let is : AreLeastShown case.plan.now (told_in case) case.prefix links = rw c.in-Some.is at known in
    let lt : l < length links = omega (arith, c.requires, is.size) in
    let h = is.each l two c.requires (slice_get-get_or links l blank lt) in
    alike _ _ _ (
      λ t. (h.open_is (not_from_Decides _ c.is_closed.ensures (not-true _ t))).0,
      λ e. elim (cases_Bool c.is_closed.result) [
        | inl t ↦ absurd ((h.shut_is (c.is_closed.ensures.0 t)).0 e)
        | inr f ↦ ap not f
      ],
    ) d) in
    (λ t. d.0 (sym same ∙ t), λ exchanged. same ∙ d.1 exchanged)
