-- The table of a plan in which nothing was heard.
use Rattle.std.proofs.Common.{◌≡◌, ℕ, ◌<◌, ◌≤◌, nat_lt, zero, suc, replicate, get_or, Bool, true, false, List, length, Option, Some, None, refl, sym, ap, ◌∙◌, arith}
use Rattle.std.specs.List.{slice_get}
use Rattle.std.proofs.lemmas.Option.{slice_get_within}
use Rattle.std.proofs.lemmas.Bool.{ltb-true, lt-ltb}
use Rattle.indexmap.proofs.IndexTableLemmas.Probe.{pigeonhole}
use Rattle.rip_wire.specs.Prefix.{Block}
use Rattle.rip_plan.specs.Network.{Network}
use Rattle.rip_plan.specs.Relations.{IsLawful, IsPlace}
use Rattle.rip_plan.specs.declared.parts.Place.{Place}
use Rattle.rip_plan.specs.declared.parts.Seat.{Seat}
use Rattle.rip_table.specs.State.{IsState, State, new_state}
use Rattle.rip_table.specs.Rows.{cell, grid_state, heads, planned_rows}
use Rattle.rip_table.proofs.RowLemmas.{heads-planned}
use Rattle.rip_table.proofs.CellLemmas.{cell-planned}
use mathlib.Core.Path.{fun_ext}

-- a place of a prefix, where there is one
record Placed (n : Network) (p : ℕ) : Type 0 where
  at : ℕ
  is : p < length n.prefixes → (seat : Seat) × IsPlace n at p seat

place_by : (n : Network) → IsLawful n → (p : ℕ) → (b : Bool) → nat_lt p (length n.prefixes) ≡ b → Placed n p
place_by n lawful p true h =
    let place = lawful.one_place p (ltb-true p (length n.prefixes) h) in
    record { at = place.0; is = λ lt. (place.1, place.2) }
place_by n lawful p false h = record { at = 0; is = λ lt. let k : true ≡ false = sym (lt-ltb p (length n.prefixes) lt) ∙ h in absurd (cc k) }

placed : (n : Network) → IsLawful n → (p : ℕ) → Placed n p
placed n lawful p = place_by n lawful p (nat_lt p (length n.prefixes)) refl

one_prefix : (n : Network) (j k p q : ℕ) (s t : Seat) → IsPlace n j p s → IsPlace n k q t → j ≡ k → p ≡ q
one_prefix n j k p q s t a b same =
    let both : Some (record { prefix = p; seat = s }) ≡ Some (record { prefix = q; seat = t }) = sym a.listed ∙ ap (slice_get n.places) same ∙ b.listed in
    let is : ◌≡◌ {A = Place} (record { prefix = p; seat = s }) (record { prefix = q; seat = t }) = cc both in
    ap (λ (x : Place). x.prefix) is

-- a plan has no more prefixes than places
few_prefixes : (n : Network) → IsLawful n → length n.prefixes ≤ length n.places
few_prefixes n lawful = pigeonhole (length n.prefixes) (length n.places) (λ p. (placed n lawful p).at)
    (λ p lt. slice_get_within n.places (placed n lawful p).at _ ((placed n lawful p).is lt).1.listed)
    (λ p q lp lq same. one_prefix n (placed n lawful p).at (placed n lawful q).at p q ((placed n lawful p).is lp).0 ((placed n lawful q).is lq).0 ((placed n lawful p).is lp).1
    ((placed n lawful q).is lq).1 same)

-- a table with the plan's prefixes that shows nothing
pub empty-is : (n : Network) → IsLawful n → (s : State) → s.prefixes ≡ n.prefixes → ((i : ℕ) (p : Block) → s.shows i p ≡ None) → IsState s
empty-is n lawful s prefixes nothing = record {
  differ = λ j k p a b. lawful.prefixes_differ j k p (ap (λ (l : List Block). slice_get l j) (sym prefixes) ∙ a) (ap (λ (l : List Block). slice_get l k) (sym prefixes) ∙ b);
  few = omega (arith, few_prefixes n lawful, lawful.few_places, ap length prefixes);
  shown = λ i m p lt h. let k : None ≡ Some m = sym (nothing i p) ∙ h in absurd (cc k);
}

pub length-none : (n : ℕ) → length (replicate n false) ≡ n
length-none zero = refl
length-none (suc n) = ap suc (length-none n)

none_at : (n i : ℕ) → get_or (replicate n false) i false ≡ false
none_at zero i = refl
none_at (suc n) zero = refl
none_at (suc n) (suc i) = none_at n i

-- the rows of a plan's prefixes mean its new table
pub grid-new : (n : Network) → grid_state (replicate (length n.interfaces) false) (planned_rows None (length n.interfaces) n.prefixes) ≡ new_state n
grid-new n =
    let w = length n.interfaces in
    let rows = planned_rows None w n.prefixes in
    ap (λ (k : ℕ). record { interfaces = k; prefixes = heads rows; shows = cell None rows; heard = (grid_state (replicate w false) rows).heard }) (length-none w)
    ∙ ap (λ (ps : List Block). record { interfaces = w; prefixes = ps; shows = cell None rows; heard = (grid_state (replicate w false) rows).heard }) (heads-planned None w n.prefixes)
    ∙ ap (λ (f : ℕ → Block → Option ℕ). record { interfaces = w; prefixes = n.prefixes; shows = f; heard = (grid_state (replicate w false) rows).heard })
    (fun_ext (λ i. fun_ext (λ p. cell-planned None w n.prefixes i p)))
    ∙ ap (λ (f : ℕ → Bool). record { interfaces = w; prefixes = n.prefixes; shows = λ i p. None; heard = f }) (fun_ext (none_at w))
