-- What a line tells of rows.
use Rattle.std.proofs.Common.{◌≡◌, ◌≢◌, ◌<◌, ◌≤◌, ℕ, Bool, true, false, not, List, [], ◌∷◌, length, Option, Some, None, Ok, Err, cond, arith, refl, sym, ◌∙◌, ap, inl, inr, ◌==◌, ◌&&◌, eq-eqb, eqb-true}
use Rattle.std.specs.Prelude.{option_map, nat_le, slice_get}
use Rattle.std.proofs.lemmas.Bool.{cases_Bool, or_parts}
use Rattle.std.proofs.lemmas.Option.{none-some, same_Some}
use Rattle.rip_wire.specs.Prefix.{Block}
use Rattle.rip_plan.specs.Network.{number_of_prefix}
use Rattle.rip_plan.proofs.LookupLemmas.{at_first}
use Rattle.rip_plan.proofs.NumberingLemmas.{same_is}
use Rattle.rip_plan.specs.Passes.{same_prefix}
use Rattle.rip_table.specs.Rows.{Rows, cell, heads}
use Rattle.rip_table.specs.State.{is_among}
use Rattle.rip_table.proofs.NumberLemmas.{number-none, number-some}
use Rattle.rip_routes.specs.declared.error.RoutesCause.TheVariants as causes
use Rattle.rip_routes.specs.declared.told.Told.{Told}
use Rattle.rip_routes.specs.Judging.{grid_tables}
use Rattle.rip_routes.specs.OwnTables.{OwnRoute, OwnTables}
use Rattle.rip_routes.specs.Telling.{tell, tell_at, with_told}

-- a prefix without a row has no cell
pub cell-absent : {Cell : Type 0} (blank : Cell) (rows : Rows Cell) (i : ℕ) (p : Block) → is_among p (heads rows) ≡ false → cell blank rows i p ≡ blank
cell-absent blank [] i p h = refl
cell-absent blank (row ∷ rows) i p h = let parts = or_parts (same_prefix p row.0) (is_among p (heads rows)) h in rw parts.0 (cell-absent blank rows i p parts.1)

-- a prefix stands at its number
pub number-at : (p : Block) (ps : List Block) (k : ℕ) → number_of_prefix p ps ≡ Some k → slice_get ps k ≡ Some p
number-at p ps k h = let (q, at, same) = at_first (same_prefix p) ps k h in at ∙ ap (λ (r : Block). Some r) (sym (same_is p q same))

module _ (listed : List Bool) (rows : Rows (Option OwnRoute)) (told : Told) where
  abbrev place : Option OwnRoute
  place = cell None rows told.router told.prefix

  abbrev tables : OwnTables
  tables = grid_tables listed rows

  told_where : (o : Option OwnRoute) → place ≡ o → tell tables told ≡ tell_at tables told o
  told_where o h = ap (tell_at tables told) h

  told_nowhere : (full : Bool) → number_of_prefix told.prefix (heads rows) ≡ None → nat_le 2048 (length (heads rows)) ≡ full
      → tell tables told ≡ cond full (Err causes.TooManyPrefixes) (Ok (with_told tables told))
  told_nowhere full none h =
      let absent = number-none told.prefix (heads rows) none in
      told_where None (cell-absent None rows told.router told.prefix absent)
      ∙ ap (λ b. cond (nat_le 2048 (length (heads rows)) && not b) (Err causes.TooManyPrefixes) (Ok (with_told tables told))) absent
      ∙ grind (arith, h)

  pub told_full : number_of_prefix told.prefix (heads rows) ≡ None → 2048 ≤ length (heads rows) → tell tables told ≡ Err causes.TooManyPrefixes
  told_full none most = told_nowhere true none (grind (arith, most))

  pub told_room : number_of_prefix told.prefix (heads rows) ≡ None → length (heads rows) < 2048 → tell tables told ≡ Ok (with_told tables told)
  told_room none few = told_nowhere false none (grind (arith, few))

  pub told_blank : (k : ℕ) → number_of_prefix told.prefix (heads rows) ≡ Some k → option_map (λ (route : OwnRoute). route.metric) place ≡ None → tell tables told ≡ Ok (with_told tables told)
  told_blank k is none = by place refl none
    where
      by : (o : Option OwnRoute) → place ≡ o → option_map (λ (route : OwnRoute). route.metric) o ≡ None → tell tables told ≡ Ok (with_told tables told)
      by None e h =
          told_where None e ∙ ap (λ b. cond (nat_le 2048 (length (heads rows)) && not b) (Err causes.TooManyPrefixes) (Ok (with_told tables told))) (number-some told.prefix (heads rows) k is)
          ∙ grind arith
      by (Some route) e h = absurd (none-some route.metric (sym h))

  told_of : (old : ℕ) → option_map (λ (route : OwnRoute). route.metric) place ≡ Some old
      → tell tables told ≡ cond (old == told.metric) (Ok (with_told tables told)) (Err (causes.Changed told.prefix old told.metric))
  told_of old some = by place refl some
    where
      by : (o : Option OwnRoute) → place ≡ o → option_map (λ (route : OwnRoute). route.metric) o ≡ Some old
          → tell tables told ≡ cond (old == told.metric) (Ok (with_told tables told)) (Err (causes.Changed told.prefix old told.metric))
      by None e h = absurd (none-some old h)
      by (Some route) e h =
          told_where (Some route) e
          ∙ ap (λ (m : ℕ). cond (m == told.metric) (Ok (with_told tables told)) (Err (causes.Changed told.prefix m told.metric))) (same_Some _ _ h)

  pub told_same : (old : ℕ) → option_map (λ (route : OwnRoute). route.metric) place ≡ Some old → old ≡ told.metric → tell tables told ≡ Ok (with_told tables told)
  told_same old some same = told_of old some ∙ ap (λ b. cond b (Ok (with_told tables told)) (Err (causes.Changed told.prefix old told.metric))) (eq-eqb old told.metric same)

  pub told_changed : (old : ℕ) → option_map (λ (route : OwnRoute). route.metric) place ≡ Some old → old ≢ told.metric → tell tables told ≡ Err (causes.Changed told.prefix old told.metric)
  told_changed old some other =
      told_of old some
      ∙ elim (cases_Bool (old == told.metric)) [
        | inl e ↦ absurd (other (eqb-true old told.metric e))
        | inr e ↦ ap (λ b. cond b (Ok (with_told tables told)) (Err (causes.Changed told.prefix old told.metric))) e
      ]
