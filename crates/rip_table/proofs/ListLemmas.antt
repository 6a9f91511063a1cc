-- Adding to the list of what the interfaces showed.
use Rattle.std.proofs.Common.{◌≡◌, ℕ, ◌==◌, Bool, true, false, cond, ◌&&◌, not, List, [], ◌∷◌, ◌++◌, length, Option, Some, None, is_none, Ok, Err, refl, sym, ap, ◌∙◌, set, ◌<◌}
use Rattle.std.proofs.Math.ListN.{length-set}
use Rattle.std.specs.Option.{option_or, option_map}
use Rattle.std.specs.List.{find, list_any}
use mathlib.Core.Path.{fun_ext}
use Rattle.rip_plan.proofs.NumberingLemmas.{same_is}
use Rattle.rip_wire.specs.Prefix.{Block}
use Rattle.rip_wire.specs.declared.entry.Entry.{Entry}
use Rattle.rip_plan.specs.Passes.{same_prefix}
use Rattle.rip_table.specs.State.{State, with_prefix}
use Rattle.rip_table.specs.Joined.{is_foreign, is_past, joined_at, joined_entries, with_heard, with_metric}
use Rattle.rip_table.specs.ListState.{IsAdded, list_state, metric_in}
use Rattle.rip_table.specs.declared.error.TableError.TheVariants.{Changed, NextHop, TooManyPrefixes}
use Rattle.rip_table.specs.declared.list.shown.Shown.{Shown}
use Rattle.rip_table.proofs.TruthLemmas.{or-none, then-split}
use Rattle.rip_table.proofs.TakingLemmas.{heard-with}
use Rattle.std.proofs.lemmas.Bool.{and_parts, eqb-true, or_parts}
use Rattle.rip_plan.specs.Network.{Network}

-- with one more item at the end
pub metric_in-snoc : (i : ℕ) (p : Block) (shown : List Shown) (c : Shown) →
    metric_in i p (shown ++ c ∷ []) ≡ option_or (metric_in i p shown) (cond ((i == c.interface) && same_prefix p c.prefix) (Some c.metric) None)
metric_in-snoc i p [] c = by ((i == c.interface) && same_prefix p c.prefix)
  where
    by : (b : Bool) → option_map (λ (x : Shown). x.metric) (cond b (Some c) None) ≡ cond b (Some c.metric) None
    by true = refl
    by false = refl
metric_in-snoc i p (d ∷ shown) c = by ((i == d.interface) && same_prefix p d.prefix) (metric_in-snoc i p shown c)
  where
    by : (b : Bool) → metric_in i p (shown ++ c ∷ []) ≡ option_or (metric_in i p shown) (cond ((i == c.interface) && same_prefix p c.prefix) (Some c.metric) None)
        → option_map (λ (x : Shown). x.metric) (cond b (Some d) (find (λ (x : Shown). (i == x.interface) && same_prefix p x.prefix) (shown ++ c ∷ [])))
        ≡ option_or (option_map (λ (x : Shown). x.metric) (cond b (Some d) (find (λ (x : Shown). (i == x.interface) && same_prefix p x.prefix) shown)))
        (cond ((i == c.interface) && same_prefix p c.prefix) (Some c.metric) None)
    by true later = refl
    by false later = later

shown_with : (i m : ℕ) (p : Block) (shown : List Shown) → metric_in i p shown ≡ None → (j : ℕ) (q : Block)
    → cond ((j == i) && same_prefix q p) (Some m) (metric_in j q shown) ≡ metric_in j q (shown ++ (record { interface = i; prefix = p; metric = m }) ∷ [])
shown_with i m p shown none j q = by ((j == i) && same_prefix q p) refl ∙ sym (metric_in-snoc j q shown (record { interface = i; prefix = p; metric = m }))
  where
    by : (b : Bool) → ((j == i) && same_prefix q p) ≡ b → cond b (Some m) (metric_in j q shown) ≡ option_or (metric_in j q shown) (cond b (Some m) None)
    by true h =
        let parts = and_parts (j == i) (same_prefix q p) h in
        let here : j ≡ i = eqb-true j i parts.0 in
        let same : q ≡ p = same_is q p parts.1 in
        sym (ap (λ (o : Option ℕ). option_or o (Some m)) (ap (λ (k : ℕ). metric_in k q shown) here ∙ ap (λ (r : Block). metric_in i r shown) same ∙ none))
    by false h = or-none (metric_in j q shown)

-- a list with one more item means a table with one more metric
state_with : (heard : List Bool) (prefixes : List Block) (shown : List Shown) (i m : ℕ) (p : Block) → metric_in i p shown ≡ None
    → with_metric (list_state heard prefixes shown) i p m ≡ list_state heard (with_prefix p prefixes) (shown ++ (record { interface = i; prefix = p; metric = m }) ∷ [])
state_with heard prefixes shown i m p none =
    ap (λ (f : ℕ → Block → Option ℕ). record { interfaces = length heard; prefixes = with_prefix p prefixes; shows = f; heard = (list_state heard prefixes shown).heard })
    (fun_ext (λ j. fun_ext (λ q. shown_with i m p shown none j q)))

-- where an interface showed a prefix before, an entry without a fault adds nothing
known_at : (net : Network) (i : ℕ) (s t : State) (e : Entry) (old : ℕ) → joined_at net i s e (Some old) ≡ Ok t → s ≡ t
known_at net i s t e old h = by (not (old == e.metric)) (is_foreign net i e) h
  where
    by : (c f : Bool) → cond c (Err (Changed e.prefix old e.metric)) (cond f (Err (NextHop e.prefix)) (Ok s)) ≡ Ok t → s ≡ t
    by true f h = absurd (cc h)
    by false true h = absurd (cc h)
    by false false h = cc h

new_at : (net : Network) (i : ℕ) (s t : State) (e : Entry) → joined_at net i s e None ≡ Ok t → with_metric s i e.prefix e.metric ≡ t
new_at net i s t e h = by (is_foreign net i e) (is_past s e.prefix) h
  where
    by : (f b : Bool) → cond f (Err (NextHop e.prefix)) (cond b (Err TooManyPrefixes) (Ok (with_metric s i e.prefix e.metric))) ≡ Ok t → with_metric s i e.prefix e.metric ≡ t
    by true b h = absurd (cc h)
    by false true h = absurd (cc h)
    by false false h = cc h

-- one entry after the other
pub added-joins : (heard : List Bool) (net : Network) (i : ℕ) (prefixes new_prefixes : List Block) (shown new_shown : List Shown) (e : Entry) (es : List Entry) (t : State)
    → IsAdded (record { interface = i; prefix = e.prefix; metric = e.metric }) prefixes shown new_prefixes new_shown
    → joined_entries net i (list_state heard prefixes shown) (e ∷ es) ≡ Ok t → joined_entries net i (list_state heard new_prefixes new_shown) es ≡ Ok t
added-joins heard net i prefixes new_prefixes shown new_shown e es t added h =
    let split = then-split (joined_at net i (list_state heard prefixes shown) e (metric_in i e.prefix shown)) (λ u. joined_entries net i u es) t h in
    ap (λ (u : State). joined_entries net i u es) (by (metric_in i e.prefix shown) refl split.0 split.1) ∙ split.2
  where
    by : (o : Option ℕ) → metric_in i e.prefix shown ≡ o → (u : State) → joined_at net i (list_state heard prefixes shown) e o ≡ Ok u → list_state heard new_prefixes new_shown ≡ u
    by (Some m) is u k =
        let same = added.known m is in
        ap (λ (l : List Block). list_state heard l new_shown) same.0 ∙ ap (list_state heard prefixes) same.1 ∙ known_at net i (list_state heard prefixes shown) u e m k
    by None is u k =
        let more = added.new is in
        ap (λ (l : List Block). list_state heard l new_shown) more.0 ∙ ap (list_state heard (with_prefix e.prefix prefixes)) more.1
        ∙ sym (state_with heard prefixes shown i e.metric e.prefix is) ∙ new_at net i (list_state heard prefixes shown) u e k

-- a response that brings no pair adds nothing
pub nothing-joins : (net : Network) (i : ℕ) (s : State) (es : List Entry) (t : State) → list_any (λ e. is_none (s.shows i e.prefix)) es ≡ false → joined_entries net i s es ≡ Ok t → s ≡ t
nothing-joins net i s [] t none h = cc h
nothing-joins net i s (e ∷ es) t none h =
    let split = then-split (joined_at net i s e (s.shows i e.prefix)) (λ u. joined_entries net i u es) t h in
    let parts = or_parts (is_none (s.shows i e.prefix)) (list_any (λ d. is_none (s.shows i d.prefix)) es) none in
    let same = here (s.shows i e.prefix) parts.0 split.0 split.1 in
    nothing-joins net i s es t parts.1 (ap (λ (u : State). joined_entries net i u es) same ∙ split.2)
  where
    here : (o : Option ℕ) → is_none o ≡ false → (u : State) → joined_at net i s e o ≡ Ok u → s ≡ u
    here None h u k = absurd (cc h)
    here (Some old) h u k = known_at net i s u e old k

-- marking an interface as heard
pub list_state-heard : (heard : List Bool) (prefixes : List Block) (shown : List Shown) (i : ℕ) → i < length heard →
    list_state (set heard i true) prefixes shown ≡ with_heard (list_state heard prefixes shown) i
list_state-heard heard prefixes shown i lt =
    ap (λ (n : ℕ). record { interfaces = n; prefixes = prefixes; shows = (list_state heard prefixes shown).shows; heard = (list_state (set heard i true) prefixes shown).heard })
    (length-set heard i true)
    ∙ ap (λ (f : ℕ → Bool). record { interfaces = length heard; prefixes = prefixes; shows = (list_state heard prefixes shown).shows; heard = f }) (heard-with heard i lt)
