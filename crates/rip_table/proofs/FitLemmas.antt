-- A table that fits a plan fits it when records have been joined.
use Rattle.std.proofs.Common.{◌≡◌, ◌==◌, ℕ, Bool, true, false, not, cond, ◌||◌, List, [], ◌∷◌, ◌++◌, Option, Some, None, Result, Ok, Err, refl, sym, ap, ◌∙◌, subst, append_assoc, append-nil}
use Rattle.std.proofs.lemmas.Bool.{or_from}
use Rattle.rip_plan.proofs.NumberingLemmas.{same_is}
use Rattle.rip_wire.specs.Prefix.{Block}
use Rattle.rip_wire.specs.Message.{Message, request, response}
use Rattle.rip_wire.specs.declared.entry.Entry.{Entry}
use Rattle.rip_plan.specs.Network.{Network}
use Rattle.rip_plan.specs.Passes.{same_prefix}
use Rattle.rip_log.specs.Lines.{Capture}
use Rattle.rip_table.specs.State.{Fits, State, is_among, new_state}
use Rattle.rip_table.specs.Joined.{and_then, as_cause, interface_of, is_foreign, is_past, joined_at, joined_capture, joined_entries, joined_from, joined_message, message_of_capture, Takes, with_heard, with_metric}
use Rattle.rip_table.specs.declared.error.TableError.{TableError}
use Rattle.rip_table.specs.declared.error.TableError.TheVariants.{Changed, Memory, NextHop, TooManyPrefixes}
use Rattle.rip_table.proofs.PrefixListLemmas.{is_among-item, is_among-append}

-- a table goes on as another: as many interfaces, and only new prefixes at the end of the list
pub record GoesOn (s t : State) : Type 0 where
  pub interfaces : t.interfaces ≡ s.interfaces
  pub more : List Block
  pub prefixes : t.prefixes ≡ s.prefixes ++ more
  pub new : (p : Block) → is_among p s.prefixes ≡ true → is_among p more ≡ false

abbrev pub Kept : {E : Type 0} → State → Result State E → Type 0
Kept s (Ok t) = GoesOn s t
Kept s (Err e) = Unit {0}

pub GoesOn-same : (s t : State) → t.interfaces ≡ s.interfaces → t.prefixes ≡ s.prefixes → GoesOn s t
GoesOn-same s t interfaces prefixes = record { interfaces = interfaces; more = []; prefixes = prefixes ∙ sym (append-nil s.prefixes); new = λ p h. refl }

pub GoesOn-trans : (s t u : State) → GoesOn s t → GoesOn t u → GoesOn s u
GoesOn-trans s t u g h = record {
  interfaces = h.interfaces ∙ g.interfaces;
  more = g.more ++ h.more;
  prefixes = h.prefixes ∙ ap (λ (l : List Block). l ++ h.more) g.prefixes ∙ append_assoc s.prefixes g.more h.more;
  new = λ p among.
      let there : is_among p t.prefixes ≡ true = ap (is_among p) g.prefixes ∙ is_among-append p s.prefixes g.more ∙ ap (λ (b : Bool). b || is_among p g.more) among in
      is_among-append p g.more h.more ∙ or_from (is_among p g.more) (is_among p h.more) (g.new p among) (h.new p there);
}

-- a prefix that is new is none of the list
other : (s : State) (q p : Block) → is_among q s.prefixes ≡ false → is_among p s.prefixes ≡ true → (b : Bool) → same_prefix p q ≡ b → (b || false) ≡ false
other s q p absent among true h =
    let same : p ≡ q = same_is p q h in
    let clash : true ≡ false = sym among ∙ ap (λ (x : Block). is_among x s.prefixes) same ∙ absent in
    absurd (cc clash)
other s q p absent among false h = refl

goes_on_with : (s : State) (i : ℕ) (q : Block) (m : ℕ) (b : Bool) → is_among q s.prefixes ≡ b → GoesOn s (with_metric s i q m)
goes_on_with s i q m true h = GoesOn-same s (with_metric s i q m) refl (ap (λ (b : Bool). cond b s.prefixes (s.prefixes ++ q ∷ [])) h)
goes_on_with s i q m false h = record {
  interfaces = refl;
  more = q ∷ [];
  prefixes = ap (λ (b : Bool). cond b s.prefixes (s.prefixes ++ q ∷ [])) h;
  new = λ p among. ap (λ (b : Bool). b || false) refl ∙ other s q p h among (same_prefix p q) refl;
}

choose : {E : Type 0} (b : Bool) (s : State) (x y : Result State E) → Kept s x → Kept s y → Kept s (cond b x y)
choose true s x y e f = e
choose false s x y e f = f

kept-at : (net : Network) (i : ℕ) (s : State) (e : Entry) (o : Option ℕ) → Kept s (joined_at net i s e o)
kept-at net i s e (Some old) =
    choose (not (old == e.metric)) s (Err (Changed e.prefix old e.metric)) (cond (is_foreign net i e) (Err (NextHop e.prefix)) (Ok s)) tt
    (choose (is_foreign net i e) s (Err (NextHop e.prefix)) (Ok s) tt (GoesOn-same s s refl refl))
kept-at net i s e None =
    choose (is_foreign net i e) s (Err (NextHop e.prefix)) (cond (is_past s e.prefix) (Err TooManyPrefixes) (Ok (with_metric s i e.prefix e.metric))) tt
    (choose (is_past s e.prefix) s (Err TooManyPrefixes) (Ok (with_metric s i e.prefix e.metric)) tt (goes_on_with s i e.prefix e.metric (is_among e.prefix s.prefixes) refl))

kept-then : (s : State) (r : Result State TableError) (f : State → Result State TableError) → Kept s r → ((t : State) → Kept t (f t)) → Kept s (and_then r f)
kept-then s (Ok t) f e h = on (f t) (h t)
  where
    on : (r : Result State TableError) → Kept t r → Kept s r
    on (Ok u) k = GoesOn-trans s t u e k
    on (Err x) k = tt
kept-then s (Err x) f e h = tt

kept-entries : (net : Network) (i : ℕ) (s : State) (es : List Entry) → Kept s (joined_entries net i s es)
kept-entries net i s [] = GoesOn-same s s refl refl
kept-entries net i s (e ∷ es) = kept-then s (joined_at net i s e (s.shows i e.prefix)) (λ t. joined_entries net i t es) (kept-at net i s e (s.shows i e.prefix)) (λ t. kept-entries net i t es)

heard : (s : State) (i : ℕ) (r : Result State TableError) → Kept (with_heard s i) r → Kept s r
heard s i (Ok t) k = GoesOn-trans s (with_heard s i) t (GoesOn-same s (with_heard s i) refl refl) k
heard s i (Err e) k = tt

kept-message : (net : Network) (i : ℕ) (s : State) (m : Message) → Kept s (joined_message net i s m)
kept-message net i s request = GoesOn-same s s refl refl
kept-message net i s (response es) = heard s i (joined_entries net i (with_heard s i) es) (kept-entries net i (with_heard s i) es)

kept-cause : (s : State) (r : Result State TableError) → Kept s r → Kept s (as_cause r)
kept-cause s (Ok t) k = k
kept-cause s (Err e) k = tt

kept-from : (net : Network) (s : State) (m : Message) (o : Option ℕ) → Kept s (joined_from net s m o)
kept-from net s request None = GoesOn-same s s refl refl
kept-from net s (response es) None = tt
kept-from net s request (Some i) = kept-cause s (joined_message net i s request) (kept-message net i s request)
kept-from net s (response es) (Some i) = kept-cause s (joined_message net i s (response es)) (kept-message net i s (response es))

fits_on : (n : Network) (s t : State) → Fits n s → GoesOn s t → Fits n t
fits_on n s t fits g = record {
  interfaces = g.interfaces ∙ fits.interfaces;
  others = fits.others ++ g.more;
  prefixes = g.prefixes ∙ ap (λ (l : List Block). l ++ g.more) fits.prefixes ∙ append_assoc n.prefixes fits.others g.more;
  unplanned = λ k p is.
      let planned : is_among p s.prefixes ≡ true = ap (is_among p) fits.prefixes ∙ is_among-append p n.prefixes fits.others ∙ ap (λ (b : Bool). b || is_among p fits.others)
      (is_among-item n.prefixes k p is) in
      is_among-append p fits.others g.more ∙ or_from (is_among p fits.others) (is_among p g.more) (fits.unplanned k p is) (g.new p planned);
}

pub Fits-joined : (n : Network) (s t : State) (c : Capture) → Fits n s → joined_capture n s c ≡ Ok t → Fits n t
Fits-joined n s t c fits h =
    let k : GoesOn s t = subst (Kept s) h (kept-from n s (message_of_capture c) (interface_of n c)) in
    fits_on n s t fits k

-- a table fits its plan when a message was taken or refused
pub Fits-taken : (n : Network) (i : ℕ) (s t : State) (m : Message) (r : Result (Unit {0}) TableError) → Fits n s → Takes n i s m t r → Fits n t
Fits-taken n i s t m (Ok u) fits h = fits_on n s t fits (subst (Kept s) h (kept-message n i s m))
Fits-taken n i s t m (Err Memory) fits h = subst (Fits n) (sym h.0) fits
Fits-taken n i s t m (Err (Changed p x y)) fits h = subst (Fits n) (sym h.0) fits
Fits-taken n i s t m (Err (NextHop p)) fits h = subst (Fits n) (sym h.0) fits
Fits-taken n i s t m (Err TooManyPrefixes) fits h = subst (Fits n) (sym h.0) fits

-- the new table of a plan fits it
pub Fits-new : (n : Network) (s : State) → s ≡ new_state n → Fits n s
Fits-new n s is = subst (Fits n) (sym is) (record { interfaces = refl; others = []; prefixes = sym (append-nil n.prefixes); unplanned = λ k p at. refl })
