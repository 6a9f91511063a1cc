-- The table of what routers tell, by its cells.
use Rattle.std.proofs.Common.{◌≡◌, ◌≢◌, ℕ, zero, suc, ◌<◌, ◌≤◌, ◌⊎◌, inl, inr, true, false, List, [], ◌∷◌, ◌++◌, Option, None, Some, option_and_then, slice_get, get_or, length, refl, sym, ap, ◌∙◌, arith}
use Rattle.std.proofs.lemmas.Bool.{both_ways, cases_Bool}
use Rattle.std.proofs.lemmas.Option.{slice_get-get_or, slice_get_within}
use Rattle.rip_wire.specs.Prefix.{Block}
use Rattle.rip_plan.specs.Network.{Network, number_of_prefix}
use Rattle.rip_plan.specs.PrefixNetworks.{exchanges}
use Rattle.rip_plan.specs.Relations.{Exchanges, IsInterface, IsLawful}
use Rattle.rip_plan.proofs.PrefixNetworkLemmas.{exchange, its_own, stays_interface}
use Rattle.rip_plan.specs.declared.parts.Interface.{Interface}
use Rattle.rip_table.specs.State.{AreDistinct, Fits, IsShown, IsState}
use Rattle.rip_table.proofs.NumberLemmas.{number-at, number-none, number-some}
use Rattle.rip_table.proofs.PrefixListLemmas.{is_among-item}
use Rattle.rip_routes.specs.OwnTables.{AreOwnTables, FitsOwn, OwnTables}
use Rattle.rip_check.specs.Metrics.{metric_at}
use Rattle.rip_check.specs.Networks.{block_at, network_at}
use Rattle.rip_check.specs.OwnTells.{IsToldBy, TellsThere}
use Rattle.std.specs.declared.vec.Vec.{Vec}
use Rattle.std.specs.declared.alloc.Global.{Global}
use Rattle.rip_check.specs.ToldCells.{AreToldRows, IsCell, IsToldRow, rows_of, cell_at, shown_by, told_state}
use Rattle.rip_check.proofs.OwnRouteLemmas.{route_is}

-- the number of a prefix of the list
pub listed_number : (ps : List Block) (p : Block) (k : ℕ) → AreDistinct ps → slice_get ps k ≡ Some p → number_of_prefix p ps ≡ Some k
listed_number ps p k differ at = by (number_of_prefix p ps) refl
  where
    by : (o : Option ℕ) → number_of_prefix p ps ≡ o → number_of_prefix p ps ≡ Some k
    by None e = let clash : true ≡ false = sym (is_among-item ps k p at) ∙ number-none p ps e in absurd cc
    by (Some j) e = e ∙ ap Some (differ j k p (number-at p ps j e) at)

-- what a cell shows that is one
shows_cell : (v : ℕ) → 1 ≤ v → shown_by v ≡ Some v
shows_cell zero least = absurd (omega (arith, least))
shows_cell (suc v) least = refl

cell_shown : (v m : ℕ) → shown_by v ≡ Some m → (v ≡ m) × (1 ≤ v)
cell_shown zero m e = absurd (cc e)
cell_shown (suc v) m e = (cc e, omega arith)

module _ (n : Network) (t : OwnTables) (plan : IsLawful n) (are : AreOwnTables t) (fits : FitsOwn n t) (rows : List (List ℕ)) (size : length rows ≡ length t.prefixes)
    (told : AreToldRows n t rows) where
  -- the cell of an interface
  row_at : (k : ℕ) → k < length t.prefixes → slice_get rows k ≡ Some (get_or rows k [])
  row_at k lt = slice_get-get_or rows k [] (omega (arith, lt, size))

  at_cell : (k i s l c : ℕ) → k < length t.prefixes → IsInterface n i s l c → cell_at rows k i ≡ shown_by (get_or (get_or rows k []) i 0)
  at_cell k i s l c lt its =
      let row = get_or rows k [] in
      let at : slice_get row i ≡ Some (get_or row i 0) = slice_get-get_or row i 0 (omega (arith, slice_get_within n.interfaces i _ its.listed, (told k row (row_at k lt)).size)) in
      rw (row_at k lt) (rw at refl)

  cell_is : (k i s l c : ℕ) → k < length t.prefixes → s < length n.routers → IsInterface (network_at n t.prefixes k) i s l c →
      IsCell (network_at n t.prefixes k) t s l k (get_or (get_or rows k []) i 0)
  cell_is k i s l c lt known its = (told k (get_or rows k []) (row_at k lt)).cells i s l c known its

  closed_cell : (k i s l c : ℕ) → k < length t.prefixes → IsInterface n i s l c → (Exchanges n l (block_at t.prefixes k) → ⊥) → get_or (get_or rows k []) i 0 ≡ 0
  closed_cell k i s l c lt its shut = (told k (get_or rows k []) (row_at k lt)).closed i s l c (plan.router_known i s l c its) its shut

  tells_cell : (k s l v : ℕ) → IsCell (network_at n t.prefixes k) t s l k v → TellsThere (network_at n t.prefixes k) t s l k (shown_by v)
  tells_cell k s l v (inl mute) = rw mute.0 mute.1
  tells_cell k s l v (inr loud) =
      let least : 1 ≤ v = omega (arith, loud.0, (route_is t are s k).least) in
      rw (shows_cell v least) (loud.1, loud.0)

  metric_is : (k i : ℕ) → k < length t.prefixes → metric_at (told_state (length n.interfaces) t.prefixes rows) i k ≡ cell_at rows k i
  metric_is k i lt = by (slice_get t.prefixes k) refl
    where
      by : (o : Option Block) → slice_get t.prefixes k ≡ o → option_and_then (λ p. option_and_then (λ j. cell_at rows j i) (number_of_prefix p t.prefixes)) o ≡ cell_at rows k i
      by None e =
          let some = slice_get-get_or t.prefixes k (record { network = 0; prefix_len = 0 }) lt in
          absurd (cc (sym e ∙ some))
      by (Some p) e = rw (listed_number t.prefixes p k are.differ e) refl

  pub told_by : IsToldBy n t (told_state (length n.interfaces) t.prefixes rows)
  told_by = record {
    interfaces = refl;
    prefixes = refl;
    unheard = λ i. refl;
    tells = λ i s l c k known lt its.
        let was = (its_own n (exchanges n (block_at t.prefixes k)) i s l c known its).0 in
        rw (metric_is k i lt ∙ at_cell k i s l c lt was) (tells_cell k s l (get_or (get_or rows k []) i 0) (cell_is k i s l c lt known its));
    nothing = λ i s l c k lt its shut.
        metric_is k i lt ∙ at_cell k i s l c lt its ∙ ap shown_by (closed_cell k i s l c lt its shut);
  }

  pub told_fits : Fits n (told_state (length n.interfaces) t.prefixes rows)
  told_fits = record { interfaces = refl; others = fits.others; prefixes = fits.prefixes; unplanned = fits.unplanned }

  metric_of_cell : (k s l v m : ℕ) → IsCell (network_at n t.prefixes k) t s l k v → shown_by v ≡ Some m → (1 ≤ m) × (m ≤ 16)
  metric_of_cell k s l v m (inl mute) e =
      let is = cell_shown v m e in
      absurd (omega (arith, is.1, mute.0))
  metric_of_cell k s l v m (inr loud) e =
      let is = cell_shown v m e in
      (omega (arith, is.0, is.1), omega (arith, is.0, loud.0, (route_is t are s k).most))

  -- a closed cell shows nothing
  shown_range : (k i s l c m : ℕ) → k < length t.prefixes → IsInterface n i s l c → shown_by (get_or (get_or rows k []) i 0) ≡ Some m → (1 ≤ m) × (m ≤ 16)
  shown_range k i s l c m lt its shown =
      let b = block_at t.prefixes k in
      elim (cases_Bool (exchanges n b l)) [
        | inl opened ↦
            metric_of_cell k s l (get_or (get_or rows k []) i 0) m (cell_is k i s l c lt (plan.router_known i s l c its) (stays_interface n (exchanges n b) i s l c its opened)) shown
        | inr shut ↦
            let zero : get_or (get_or rows k []) i 0 ≡ 0 = closed_cell k i s l c lt its (λ is. both_ways (exchanges n b l) shut ((exchange n plan b l).1 is)) in
            let none : shown_by 0 ≡ Some m = rw zero at shown in
            absurd cc
      ]

  pub told_state_is : IsState (told_state (length n.interfaces) t.prefixes rows)
  told_state_is = record {
    differ = are.differ;
    few = are.few;
    shown = λ i m p lt e. by i m p lt (number_of_prefix p t.prefixes) refl e;
  }
    where
      by : (i m : ℕ) (p : Block) → i < length n.interfaces → (o : Option ℕ) → number_of_prefix p t.prefixes ≡ o → option_and_then (λ k. cell_at rows k i) o ≡ Some m →
          IsShown (told_state (length n.interfaces) t.prefixes rows) p m
      by i m p lt None number e = absurd (cc e)
      by i m p lt (Some k) number e =
          let blank : Interface = record { router = 0; link = 0; address = 0; cost = 0; direct = 0; poison = true } in
          let x = get_or n.interfaces i blank in
          let its : IsInterface n i x.router x.link x.cost = record { interface = x; listed = slice_get-get_or n.interfaces i blank lt; router = refl; link = refl; cost = refl } in
          let at = slice_get_within t.prefixes k p (number-at p t.prefixes k number) in
          let range = shown_range k i x.router x.link x.cost m at its (sym (at_cell k i x.router x.link x.cost at its) ∙ e) in
          record { least = range.0; most = range.1; listed = number-some p t.prefixes k number }

-- an item of a list with one item more
appended : {X : Type 0} (xs : List X) (x y : X) (k : ℕ) → slice_get (xs ++ x ∷ []) k ≡ Some y → (slice_get xs k ≡ Some y) ⊎ ((k ≡ length xs) × (x ≡ y))
appended [] x y zero e = inr (refl, cc e)
appended [] x y (suc k) e = absurd (cc e)
appended (z ∷ xs) x y zero e = inl e
appended (z ∷ xs) x y (suc k) e =
    elim (appended xs x y k e) [
      | inl there ↦ inl there
      | inr last ↦ inr (ap suc last.0, last.1)
    ]

-- one more row
pub rows_more : (n : Network) (t : OwnTables) (rows : List (List ℕ)) (row : List ℕ) → AreToldRows n t rows → IsToldRow n t (length rows) row → AreToldRows n t (rows ++ row ∷ [])
rows_more n t rows row told new k other at =
    elim (appended rows row other k at) [
      | inl there ↦ told k other there
      | inr last ↦ rw last.0 (rw last.1 at new)
    ]

-- the items of a row of a list of rows
pub row_items : (rows : List (Vec ℕ Global)) (k : ℕ) (row : Vec ℕ Global) → slice_get rows k ≡ Some row → slice_get (rows_of rows) k ≡ Some row.items
row_items [] k row at = absurd (cc at)
row_items (x ∷ rows) zero row at = ap (λ (v : Vec ℕ Global). Some v.items) (same_row x row at)
  where
    same_row : (x row : Vec ℕ Global) → Some x ≡ Some row → x ≡ row
    same_row x row e = cc e
row_items (x ∷ rows) (suc k) row at = row_items rows k row at

-- what a cell shows of a prefix
pub told_cell : (count : ℕ) (prefixes : List Block) (rows : List (List ℕ)) → AreDistinct prefixes → (k i x : ℕ) (p : Block) (row : List ℕ) → slice_get prefixes k ≡ Some p →
    slice_get rows k ≡ Some row → slice_get row i ≡ Some x → (told_state count prefixes rows).shows i p ≡ shown_by x
told_cell count prefixes rows differ k i x p row at row_at x_at = rw (listed_number prefixes p k differ at) (rw row_at (rw x_at refl))

pub shows_metric : (v : ℕ) → v ≢ 0 → shown_by v ≡ Some v
shows_metric zero other = absurd (other refl)
shows_metric (suc v) other = refl
