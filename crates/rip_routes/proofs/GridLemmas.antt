-- What rows mean as a line is told.
use Rattle.std.proofs.Common.{◌≡◌, ◌⊎◌, ◌<◌, ◌≤◌, ℕ, Bool, true, false, not, List, [], ◌∷◌, ◌++◌, length, replicate, Option, Some, None, cond, arith, refl, sym, subst, ◌∙◌, ap, inl, inr, set, ◌==◌, ◌&&◌, ◌||◌, eq-eqb, eqb-true}
use Rattle.std.specs.Prelude.{slice_get, unwrap_or}
use Rattle.std.proofs.lemmas.Bool.{cases_Bool, and_parts}
use Rattle.std.proofs.lemmas.List.{length-append}
use Rattle.std.proofs.lemmas.List.Folds.{list_any-append}
use Rattle.std.proofs.lemmas.Option.{same_Some, slice_get_within}
use Rattle.rip_wire.specs.Prefix.{Block}
use Rattle.rip_wire.specs.declared.entry.Entry.{Entry}
use Rattle.rip_plan.specs.Network.{number_of_prefix}
use Rattle.rip_plan.specs.Passes.{same_prefix}
use Rattle.rip_plan.proofs.NumberingLemmas.{same_is, same_self}
use Rattle.rip_table.specs.State.{State, is_among, with_prefix}
use Rattle.rip_table.specs.Rows.{IsGrid, Rows, cell, heads, with_cell, with_row}
use Rattle.rip_table.proofs.AfterLemmas.{grid_state-heard}
use Rattle.rip_table.proofs.CellLemmas.{cells-with_cell, cells-with_rows}
use Rattle.rip_table.proofs.NumberLemmas.{number-none}
use Rattle.rip_table.proofs.PrefixListLemmas.{is_among-item}
use Rattle.rip_table.proofs.RowLemmas.{heads-append, heads-with_cell, number-keeps}
use Rattle.rip_routes.specs.Cells.{added}
use Rattle.rip_routes.specs.Judging.{grid_tables}
use Rattle.rip_routes.specs.OwnTables.{OwnRoute}
use Rattle.rip_routes.specs.Telling.{first_route, has_hop, route_with, same_hop, with_hop, with_told, with_way}
use Rattle.rip_routes.specs.Ways.{AreWays, IsNewWay, IsNoted, WayKey, has_way, hops_of, same_way}
use Rattle.rip_routes.specs.declared.next_hop.NextHop.{NextHop}
use Rattle.rip_routes.specs.declared.told.Told.{Told}
use Rattle.rip_routes.specs.declared.told.Way.{Way}
use Rattle.rip_routes.specs.declared.told.Way.TheVariants.{Here, To}
use Rattle.rip_routes.proofs.OwnLemmas.{same_hop_is, same_hop_self, split_item}
use Rattle.rip_routes.proofs.TellLemmas.{cell-absent, number-at}

abbrev Routes : Type 0
Routes = Rows (Option OwnRoute)

abbrev grown : ℕ → Routes → Block → Routes
grown w rows p = with_row None w rows p

heads_by : (w : ℕ) (rows : Routes) (p : Block) (b : Bool) → heads (cond b rows (rows ++ (p, replicate w None) ∷ [])) ≡ cond b (heads rows) (heads rows ++ p ∷ [])
heads_by w rows p true = refl
heads_by w rows p false = heads-append rows (p, replicate w None)

pub heads-grown : (w : ℕ) (rows : Routes) (p : Block) → heads (grown w rows p) ≡ with_prefix p (heads rows)
heads-grown w rows p = heads_by w rows p (is_among p (heads rows))

pub cells-grown : (w : ℕ) (rows : Routes) (p : Block) → ◌≡◌ {A = ℕ → Block → Option OwnRoute} (cell None (grown w rows p)) (cell None rows)
cells-grown w rows p = let e : Entry = record { tag = 0; prefix = p; next_hop = 0; metric = 1 } in cells-with_rows None w rows (e ∷ [])

-- a row that is new tells nothing
pub tables-grown : (listed : List Bool) (w : ℕ) (rows : Routes) (p : Block) → grid_tables listed (grown w rows p) ≡ record (grid_tables listed rows) { prefixes = with_prefix p (heads rows) }
tables-grown listed w rows p =
    ap (λ (ps : List Block). record { prefixes = ps; listed = (grid_tables listed rows).listed; routes = cell None (grown w rows p) }) (heads-grown w rows p)
    ∙ ap (λ (f : ℕ → Block → Option OwnRoute). record { prefixes = with_prefix p (heads rows); listed = (grid_tables listed rows).listed; routes = f }) (cells-grown w rows p)

-- ---- what is added

added_hop : (hop : NextHop) (route : OwnRoute) (b is_new : Bool) → is_new ≡ not b → cond is_new (route.hops ++ hop ∷ []) route.hops ≡ cond b route.hops (route.hops ++ hop ∷ [])
added_hop hop route true is_new h = ap (λ c. cond c (route.hops ++ hop ∷ []) route.hops) h
added_hop hop route false is_new h = ap (λ c. cond c (route.hops ++ hop ∷ []) route.hops) h

hops-first : (m : ℕ) (o : Option OwnRoute) → hops_of o ≡ (unwrap_or o (first_route m)).hops
hops-first m None = refl
hops-first m (Some route) = refl

-- the way was noted as new exactly where the route lacks it
pub added-is : (ways : List WayKey) (r k m : ℕ) (o : Option OwnRoute) (way : Option Way) (is_new : Bool) → ((hop : NextHop) → has_way (r, k, hop) ways ≡ has_hop hop (hops_of o))
    → IsNewWay ways r k way is_new → added (unwrap_or o (first_route m)) way is_new ≡ with_way (unwrap_or o (first_route m)) way
added-is ways r k m o None is_new kept h = refl
added-is ways r k m o (Some Here) is_new kept h = refl
added-is ways r k m o (Some (To hop)) is_new kept h =
    let route = unwrap_or o (first_route m) in
    ap (λ (hops : List NextHop). record { metric = route.metric; here = route.here; hops = hops })
    (added_hop hop route (has_hop hop route.hops) is_new (h ∙ ap not (kept hop ∙ ap (has_hop hop) (hops-first m o))))

-- ---- the tables of a line that was written

pub tables-told : (listed : List Bool) (w : ℕ) (rows : Routes) (told : Told) (k : ℕ) (x : Option OwnRoute) → number_of_prefix told.prefix (heads (grown w rows told.prefix)) ≡ Some k
    → IsGrid w (grown w rows told.prefix) → told.router < w → told.router < length listed → x ≡ Some (route_with (cell None rows told.router told.prefix) told)
    → grid_tables (set listed told.router true) (with_cell (grown w rows told.prefix) k told.router x) ≡ with_told (grid_tables listed rows) told
tables-told listed w rows told k x number grid lt within is =
    ap (λ (ps : List Block). record { prefixes = ps; listed = (grid_tables (set listed told.router true) rows).listed; routes = cell None (with_cell (grown w rows told.prefix) k told.router x) })
    (heads-with_cell (grown w rows told.prefix) k told.router x ∙ heads-grown w rows told.prefix)
    ∙ ap (λ (f : ℕ → Bool). record { prefixes = with_prefix told.prefix (heads rows); listed = f; routes = cell None (with_cell (grown w rows told.prefix) k told.router x) })
    (ap (λ (s : State). s.heard) (grid_state-heard listed [] told.router within))
    ∙ ap (λ (f : ℕ → Block → Option OwnRoute). record { prefixes = with_prefix told.prefix (heads rows); listed = (with_told (grid_tables listed rows) told).listed; routes = f })
    (cells-with_cell None w (grown w rows told.prefix) told.prefix k told.router x number grid lt
    ∙ ap (λ (f : ℕ → Block → Option OwnRoute). λ j q. cond ((j == told.router) && same_prefix q told.prefix) x (f j q)) (cells-grown w rows told.prefix)
    ∙ ap (λ (y : Option OwnRoute). λ j q. cond ((j == told.router) && same_prefix q told.prefix) y (cell None rows j q)) is)

-- ---- the ways

number_by : (q p : Block) (ps : List Block) (k : ℕ) (o : Option ℕ) → number_of_prefix q ps ≡ o → number_of_prefix q (ps ++ p ∷ []) ≡ Some k
    → (number_of_prefix q ps ≡ Some k) ⊎ ((number_of_prefix q ps ≡ None) × (length ps ≤ k))
number_by q p ps k (Some j) e h = inl (e ∙ sym (number-keeps q ps (p ∷ []) j e) ∙ h)
number_by q p ps k None e h =
    elim (split_item ps p q k (number-at q (ps ++ p ∷ []) k h)) [
      | inl at ↦ absurd (no_such at)
      | inr last ↦ inr (e, omega (arith, last.0))
    ]
  where
    no_such : slice_get ps k ≡ Some q → ⊥
    no_such at = let clash : false ≡ true = sym (number-none q ps e) ∙ is_among-item ps k q at in cc clash

-- of a new row there are no ways
pub ways-grown : (ways : List WayKey) (w : ℕ) (rows : Routes) (p : Block) → AreWays ways rows → AreWays ways (grown w rows p)
ways-grown ways w rows p h = record {
  kept = λ r k q hop number. kept_by (is_among p (heads rows)) refl r k q hop (subst (λ (ps : List Block). number_of_prefix q ps ≡ Some k) (heads-grown w rows p) number)
      ∙ ap (λ (f : ℕ → Block → Option OwnRoute). has_hop hop (hops_of (f r q))) (sym (cells-grown w rows p));
  others = λ r k hop le. h.others r k hop (longer (is_among p (heads rows)) k (subst (λ (ps : List Block). length ps ≤ k) (heads-grown w rows p) le));
}
  where
    of_new : (r k : ℕ) (q : Block) (hop : NextHop) → (number_of_prefix q (heads rows) ≡ Some k) ⊎ ((number_of_prefix q (heads rows) ≡ None) × (length (heads rows) ≤ k))
        → has_way (r, k, hop) ways ≡ has_hop hop (hops_of (cell None rows r q))
    of_new r k q hop (inl number) = h.kept r k q hop number
    of_new r k q hop (inr none) = h.others r k hop none.1 ∙ sym (ap (λ (o : Option OwnRoute). has_hop hop (hops_of o)) (cell-absent None rows r q (number-none q (heads rows) none.0)))

    kept_by : (b : Bool) → is_among p (heads rows) ≡ b → (r k : ℕ) (q : Block) (hop : NextHop) → number_of_prefix q (cond b (heads rows) (heads rows ++ p ∷ [])) ≡ Some k
        → has_way (r, k, hop) ways ≡ has_hop hop (hops_of (cell None rows r q))
    kept_by true e r k q hop number = h.kept r k q hop number
    kept_by false e r k q hop number = of_new r k q hop (number_by q p (heads rows) k (number_of_prefix q (heads rows)) refl number)

    longer : (b : Bool) (k : ℕ) → length (cond b (heads rows) (heads rows ++ p ∷ [])) ≤ k → length (heads rows) ≤ k
    longer true k le = le
    longer false k le = omega (arith, le, length-append (heads rows) (p ∷ []))

or_last : (b c : Bool) → c ≡ true → (b || (c || false)) ≡ true
or_last true c h = refl
or_last false c h = ap (λ d. d || false) h

or_none : (b c : Bool) → c ≡ false → (b || (c || false)) ≡ b
or_none true c h = refl
or_none false c h = ap (λ d. d || false) h

other_hop : (h hop : NextHop) → same_hop h hop ≡ false → same_hop hop h ≡ false
other_hop h hop e =
    elim (cases_Bool (same_hop hop h)) [
      | inl same ↦ let clash : false ≡ true = sym e ∙ ap (λ (x : NextHop). same_hop x hop) (sym (same_hop_is hop h same)) ∙ same_hop_self hop in absurd (cc clash)
      | inr other ↦ other
    ]

has_with : (h hop : NextHop) (hops : List NextHop) → has_hop hop (with_hop h hops) ≡ cond (same_hop h hop) true (has_hop hop hops)
has_with h hop hops = by (has_hop h hops) refl (same_hop h hop) refl
  where
    by : (b : Bool) → has_hop h hops ≡ b → (c : Bool) → same_hop h hop ≡ c → has_hop hop (cond b hops (hops ++ h ∷ [])) ≡ cond c true (has_hop hop hops)
    by true e true c = ap (λ (x : NextHop). has_hop x hops) (sym (same_hop_is h hop c)) ∙ e
    by true e false c = refl
    by false e true c = list_any-append (same_hop hop) hops (h ∷ []) ∙ or_last (has_hop hop hops) (same_hop hop h) (ap (λ (x : NextHop). same_hop x h) (sym (same_hop_is h hop c)) ∙ same_hop_self h)
    by false e false c = list_any-append (same_hop hop) hops (h ∷ []) ∙ or_none (has_hop hop hops) (same_hop hop h) (other_hop h hop c)

-- the next hops once a way is told
abbrev told_hops : Option Way → List NextHop → List NextHop
told_hops None hops = hops
told_hops (Some Here) hops = hops
told_hops (Some (To hop)) hops = with_hop hop hops

hops-with_way : (route : OwnRoute) (way : Option Way) → (with_way route way).hops ≡ told_hops way route.hops
hops-with_way route None = refl
hops-with_way route (Some Here) = refl
hops-with_way route (Some (To hop)) = refl

same_place : (r k : ℕ) (h hop : NextHop) → same_way (r, k, h) (r, k, hop) ≡ same_hop h hop
same_place r k h hop = ap (λ b. (b && k == k) && same_hop h hop) (eq-eqb r r refl) ∙ ap (λ b. (true && b) && same_hop h hop) (eq-eqb k k refl)

other_place : (r k s j : ℕ) (h hop : NextHop) → (r == s && k == j) ≡ false → same_way (r, k, h) (s, j, hop) ≡ false
other_place r k s j h hop e = ap (λ b. b && same_hop h hop) e

-- what was noted of the place
noted-here : (old new : List WayKey) (r k : ℕ) (way : Option Way) (hops : List NextHop) → IsNoted old r k way new → ((hop : NextHop) → has_way (r, k, hop) old ≡ has_hop hop hops) → (hop : NextHop)
    → has_way (r, k, hop) new ≡ has_hop hop (told_hops way hops)
noted-here old new r k None hops noted kept hop = ap (has_way (r, k, hop)) noted ∙ kept hop
noted-here old new r k (Some Here) hops noted kept hop = ap (has_way (r, k, hop)) noted ∙ kept hop
noted-here old new r k (Some (To h)) hops noted kept hop =
    noted (r, k, hop) ∙ ap (λ b. cond b true (has_way (r, k, hop) old)) (same_place r k h hop) ∙ ap (λ b. cond (same_hop h hop) true b) (kept hop) ∙ sym (has_with h hop hops)

-- and of any other
noted-there : (old new : List WayKey) (r k s j : ℕ) (way : Option Way) → IsNoted old r k way new → (r == s && k == j) ≡ false → (hop : NextHop) → has_way (s, j, hop) new ≡ has_way (s, j, hop) old
noted-there old new r k s j None noted e hop = ap (has_way (s, j, hop)) noted
noted-there old new r k s j (Some Here) noted e hop = ap (has_way (s, j, hop)) noted
noted-there old new r k s j (Some (To h)) noted e hop = noted (s, j, hop) ∙ ap (λ b. cond b true (has_way (s, j, hop) old)) (other_place r k s j h hop e)

and_none : (b : Bool) (k j : ℕ) → ((k ≡ j) → ⊥) → (b && k == j) ≡ false
and_none true k j h = elim (cases_Bool (k == j)) [ inl e ↦ absurd (h (eqb-true k j e)) | inr e ↦ e ]
and_none false k j h = refl

-- the ways once a line's route was written
pub ways-told : (old new : List WayKey) (w : ℕ) (rows : Routes) (r k m : ℕ) (p : Block) (way : Option Way) (x : Option OwnRoute) → number_of_prefix p (heads rows) ≡ Some k → IsGrid w rows → r < w
    → x ≡ Some (with_way (unwrap_or (cell None rows r p) (first_route m)) way) → IsNoted old r k way new → AreWays old rows → AreWays new (with_cell rows k r x)
ways-told old new w rows r k m p way x number grid lt is noted h = record {
  kept = λ s j q hop at. kept_by s j q hop (subst (λ (ps : List Block). number_of_prefix q ps ≡ Some j) (heads-with_cell rows k r x) at) ((s == r) && same_prefix q p) refl
      ∙ ap (λ (f : ℕ → Block → Option OwnRoute). has_hop hop (hops_of (f s q))) (sym (cells-with_cell None w rows p k r x number grid lt));
  others = λ s j hop le. let past = subst (λ (ps : List Block). length ps ≤ j) (heads-with_cell rows k r x) le in
      noted-there old new r k s j way noted (and_none (r == s) k j (λ same. omega (arith, past, same, slice_get_within (heads rows) k p (number-at p (heads rows) k number)))) hop ∙ h.others s j hop past;
}
  where
    hops_here : told_hops way (hops_of (cell None rows r p)) ≡ hops_of x
    hops_here =
        ap (told_hops way) (hops-first m (cell None rows r p)) ∙ sym (hops-with_way (unwrap_or (cell None rows r p) (first_route m)) way) ∙ sym (ap hops_of is)

    kept_by : (s j : ℕ) (q : Block) (hop : NextHop) → number_of_prefix q (heads rows) ≡ Some j → (b : Bool) → ((s == r) && same_prefix q p) ≡ b
        → has_way (s, j, hop) new ≡ has_hop hop (hops_of (cond b x (cell None rows s q)))
    kept_by s j q hop at true e =
        let both = and_parts (s == r) (same_prefix q p) e in
        let router : s ≡ r = eqb-true s r both.0 in
        let place : k ≡ j = same_Some _ _ (sym number ∙ ap (λ (b : Block). number_of_prefix b (heads rows)) (sym (same_is q p both.1)) ∙ at) in
        ap (λ (i : ℕ). has_way (i, j, hop) new) router ∙ ap (λ (i : ℕ). has_way (r, i, hop) new) (sym place)
        ∙ noted-here old new r k way (hops_of (cell None rows r p)) noted (λ h'. h.kept r k p h' number) hop
        ∙ ap (has_hop hop) hops_here
    kept_by s j q hop at false e =
        noted-there old new r k s j way noted (apart (r == s) refl) hop ∙ h.kept s j q hop at
      where
        no_such : r ≡ s → k ≡ j → ⊥
        no_such router place =
            let block : q ≡ p = same_Some _ _ (sym (number-at q (heads rows) j at) ∙ ap (slice_get (heads rows)) (sym place) ∙ number-at p (heads rows) k number) in
            let clash : false ≡ true = sym e ∙ ap (λ b. b && same_prefix q p) (eq-eqb s r (sym router)) ∙ ap (λ (x : Block). same_prefix x p) block ∙ same_self p in
            cc clash

        apart : (b : Bool) → (r == s) ≡ b → (b && k == j) ≡ false
        apart false c = refl
        apart true c = and_none true k j (λ same. no_such (eqb-true r s c) same)
