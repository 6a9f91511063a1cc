-- What lines come to is what the words say.
use Rattle.std.proofs.Common.{◌≡◌, ◌+◌, ℕ, drop, Bool, true, false, ◌&&◌, cond, not, ◌==◌, List, [], ◌∷◌, ◌++◌, Option, Some, None, Result, Ok, Err, refl, sym, ap, ◌∙◌, subst}
use Rattle.rip_plan.proofs.NumberingLemmas.{same_self}
use Rattle.rip_wire.specs.Datagram.{message_or_request}
use Rattle.rip_wire.specs.Prefix.{Block}
use Rattle.rip_wire.specs.Message.{Message, request as a_request, response, message_in}
use Rattle.rip_wire.specs.declared.entry.Entry.{Entry}
use Rattle.rip_wire.specs.declared.error.WireError.{WireError}
use Rattle.rip_plan.specs.Network.{Network, found_at}
use Rattle.rip_plan.specs.Passes.{same_prefix}
use Rattle.rip_plan.specs.Relations.{IsLawful}
use Rattle.rip_log.specs.Said.{Origin, Said, SaidAt, captured, bad as bad_line}
use Rattle.rip_log.specs.Lines.{Capture}
use Rattle.rip_table.specs.State.{Fits, IsState, State}
use Rattle.rip_table.specs.Joined.{and_then, as_cause, interface_of, is_foreign, is_past, joined_at, joined_capture, joined_entries, joined_from, joined_message, joined_records, message_of_capture, with_heard, with_metric}
use Rattle.rip_table.specs.LogJoin.{IsBadEntry, IsResponse, IsUnknown}
use Rattle.rip_table.specs.Events.{Event, EventAt, joined, refused, stranger, request, bad, ComeTo, ComesTo, IsHopAfter, IsJoinedBy, IsOf, IsOfKnown, IsRefusedBy, IsRequest, Outcome, came, came_from, events_of, hop_among, hop_of, interface_at, origin_of_capture, state_after, taken}
use Rattle.rip_table.specs.declared.error.CollectCause.{CollectCause}
use Rattle.rip_table.specs.declared.error.TableError.{TableError}
use Rattle.rip_table.specs.declared.error.TableError.TheVariants.{Changed, NextHop, TooManyPrefixes, Memory}
use Rattle.rip_table.proofs.CheckLemmas.{heard_valid}
use Rattle.rip_table.proofs.FitLemmas.{Fits-joined}
use Rattle.std.specs.List.{slice_get}
use Rattle.rip_table.proofs.PrefixListLemmas.{drop-more}
use Rattle.rip_table.proofs.MetricLemmas.{LowerLaws, front_metrics, response_metrics, same_entries}
use Rattle.rip_table.proofs.RefusedLemmas.{IsElsewhere-foreign, is_joined, joined_is, joined_of_entries, response_refused}
use Rattle.rip_table.proofs.SaidLemmas.{interface_below}

-- ---- the next hop

-- an entry that is joined has no other next hop
not_foreign : (n : Network) (i : ℕ) (s t : State) (e : Entry) (o : Option ℕ) → joined_at n i s e o ≡ Ok t → is_foreign n i e ≡ false
not_foreign n i s t e (Some old) h = by (old == e.metric) (is_foreign n i e) h
  where
    by : (c f : Bool) → ◌≡◌ {A = Result State TableError} (cond (not c) (Err (Changed e.prefix old e.metric)) (cond f (Err (NextHop e.prefix)) (Ok s))) (Ok t) → f ≡ false
    by false f k = cc k
    by true true k = cc k
    by true false k = refl
not_foreign n i s t e None h = by (is_foreign n i e) h
  where
    by : (f : Bool) → ◌≡◌ {A = Result State TableError} (cond f (Err (NextHop e.prefix)) (cond (is_past s e.prefix) (Err TooManyPrefixes) (Ok (with_metric s i e.prefix e.metric)))) (Ok t) → f ≡ false
    by true k = cc k
    by false k = refl

and_no : (b : Bool) → b && false ≡ false
and_no true = refl
and_no false = refl

hop_past : (n : Network) (i : ℕ) (p : Block) (e : Entry) (es : List Entry) → is_foreign n i e ≡ false → hop_among n i p (e ∷ es) ≡ hop_among n i p es
hop_past n i p e es local =
    ap (λ (f : Bool). cond (same_prefix e.prefix p && f) (Some e.next_hop) (hop_among n i p es)) local
    ∙ ap (λ (c : Bool). cond c (Some e.next_hop) (hop_among n i p es)) (and_no (same_prefix e.prefix p))

-- entries that are joined are passed
hop_front : (n : Network) (i : ℕ) (s t : State) (p : Block) (front rest : List Entry) → joined_entries n i s front ≡ Ok t → hop_among n i p (front ++ rest) ≡ hop_among n i p rest
hop_front n i s t p [] rest h = refl
hop_front n i s t p (e ∷ front) rest h = by (joined_at n i s e (s.shows i e.prefix)) refl h (λ u k. hop_front n i u t p front rest k)
  where
    by : (r : Result State TableError) → joined_at n i s e (s.shows i e.prefix) ≡ r → and_then r (λ u. joined_entries n i u front) ≡ Ok t
        → ((u : State) → joined_entries n i u front ≡ Ok t → hop_among n i p (front ++ rest) ≡ hop_among n i p rest) → hop_among n i p (e ∷ front ++ rest) ≡ hop_among n i p rest
    by (Ok u) is k later = hop_past n i p e (front ++ rest) (not_foreign n i s u e (s.shows i e.prefix) is) ∙ later u k
    by (Err error) is k later = absurd (cc k)

hop_here : (n : Network) (i : ℕ) (p : Block) (e : Entry) (rest : List Entry) → p ≡ e.prefix → is_foreign n i e ≡ true → hop_among n i p (e ∷ rest) ≡ Some e.next_hop
hop_here n i p e rest same foreign =
    ap (λ (q : Block). cond (same_prefix e.prefix q && is_foreign n i e) (Some e.next_hop) (hop_among n i p rest)) same
    ∙ ap (λ (c : Bool). cond (c && is_foreign n i e) (Some e.next_hop) (hop_among n i p rest)) (same_self e.prefix)
    ∙ ap (λ (c : Bool). cond c (Some e.next_hop) (hop_among n i p rest)) foreign

hop_is : (n : Network) (i : ℕ) (s t : State) (error : TableError) (front rest : List Entry) (e : Entry) → joined_entries n i s front ≡ Ok t → IsBadEntry n i t e error
    → IsHopAfter error e (hop_of n i error (front ++ e ∷ rest))
hop_is n i s t (NextHop p) front rest e h is = hop_front n i s t p front (e ∷ rest) h ∙ hop_here n i p e rest is.prefix (IsElsewhere-foreign n i e is.elsewhere)
hop_is n i s t (Changed p x y) front rest e h is = refl
hop_is n i s t TooManyPrefixes front rest e h is = refl
hop_is n i s t Memory front rest e h is = refl

one_hop : (error : TableError) (e : Entry) (a b : Option ℕ) → IsHopAfter error e a → IsHopAfter error e b → a ≡ b
one_hop (NextHop p) e a b h k = h ∙ sym k
one_hop (Changed p x y) e a b h k = h ∙ sym k
one_hop TooManyPrefixes e a b h k = h ∙ sym k
one_hop Memory e a b h k = h ∙ sym k

-- ---- a line

-- a record by its message and the interface that sent it
came_known : (n : Network) (s : State) (c : Capture) (m : Message) (o : Option ℕ) → message_of_capture c ≡ m → interface_of n c ≡ o → came n s (captured c) ≡ came_from n s (origin_of_capture c) m o
came_known n s c m o said found =
    ap (λ (x : Message). came_from n s (origin_of_capture c) x (interface_of n c)) said ∙ ap (came_from n s (origin_of_capture c) m) found

joined_known : (n : Network) (s : State) (c : Capture) (m : Message) (o : Option ℕ) → message_of_capture c ≡ m → interface_of n c ≡ o → joined_capture n s c ≡ joined_from n s m o
joined_known n s c m o said found =
    ap (λ (x : Message). joined_from n s x (interface_of n c)) said ∙ ap (joined_from n s m) found

record_joined : (n : Network) (s t : State) (line : ℕ) (c : Capture) → joined_capture n s c ≡ Ok t → joined_records n s ((record { line = line; capture = c }) ∷ []) ≡ Ok t
record_joined n s t line c h = ap (λ (x : Result State CollectCause). and_then x (λ u. Ok u)) h

joined_record : (n : Network) (s t : State) (line : ℕ) (c : Capture) → joined_records n s ((record { line = line; capture = c }) ∷ []) ≡ Ok t → joined_capture n s c ≡ Ok t
joined_record n s t line c h = by (joined_capture n s c) h
  where
    by : (x : Result State CollectCause) → ◌≡◌ {A = Result State CollectCause} (and_then x (λ u. Ok u)) (Ok t) → x ≡ Ok t
    by (Ok u) k = k
    by (Err e) k = absurd (cc k)

-- an outcome is this event and this table
abbrev pub Is : Outcome → Event → State → Type 0
Is x e t = x ≡ record { event = e; state = t }

module _ (below : LowerLaws) (n : Network) (s : State) (lawful : IsLawful n) (valid : IsState s) (fits : Fits n s) where
  of_found : (o : Origin) (of : Option ℕ) → found_at n o.link o.sender ≡ of → IsOf n o of
  of_found o None is = λ i at. let clash : Some i ≡ None = sym (below.finds n o.link o.sender i lawful at) ∙ is in cc clash
  of_found o (Some i) is = below.gives n o.link o.sender i is

  found_of : (o : Origin) (of : Option ℕ) → IsOf n o of → found_at n o.link o.sender ≡ of
  found_of o None is = by (found_at n o.link o.sender) refl
    where
      by : (x : Option ℕ) → found_at n o.link o.sender ≡ x → x ≡ None
      by None k = refl
      by (Some i) k = absurd (is i (below.gives n o.link o.sender i k))
  found_of o (Some i) is = below.finds n o.link o.sender i lawful is

  refused_words : (c : Capture) (i : ℕ) (es : List Entry) (error : TableError) → IsResponse n c i es → joined_message n i s (response es) ≡ Err error → IsRefusedBy n s c i error (hop_of n i error es)
  refused_words c i es error is h =
      let first = (response_refused below n s c i es error lawful valid fits is).0 h in
      let here : ◌≡◌ {A = Option ℕ} (Some first.interface) (Some i) = sym (below.finds n c.link c.sender first.interface lawful first.response.from) ∙ below.finds n c.link c.sender i lawful is.from in
      let of : first.interface ≡ i = cc here in
      let same = same_entries below.fields c.datagram (first.front ++ first.entry ∷ first.rest) es first.response.says is.says in
      let metrics = front_metrics first.front (first.entry ∷ first.rest) (response_metrics c.datagram (first.front ++ first.entry ∷ first.rest) first.response.says) in
      let front = joined_of_entries n first.interface (with_heard s first.interface) first.state first.front metrics (heard_valid s first.interface valid)
      (interface_below n s c.link c.sender first.interface fits first.response.from) first.joined in
      let after = hop_is n first.interface (with_heard s first.interface) first.state error first.front first.rest first.entry front first.bad in
      record {
        first = first;
        of = of;
        after = subst (λ (x : List Entry). IsHopAfter error first.entry (hop_of n i error x)) same
            (subst (λ (j : ℕ). IsHopAfter error first.entry (hop_of n j error (first.front ++ first.entry ∷ first.rest))) of after);
      }

  words_refused : (c : Capture) (i : ℕ) (error : TableError) (hop : Option ℕ) → IsRefusedBy n s c i error hop → Is (came n s (captured c)) (refused i error hop) s
  words_refused c i error hop is =
      let es = is.first.front ++ is.first.entry ∷ is.first.rest in
      let response_is : IsResponse n c i es = subst (λ (j : ℕ). IsResponse n c j es) is.of is.first.response in
      let h = (response_refused below n s c i es error lawful valid fits response_is).1 is.first in
      let metrics = front_metrics is.first.front (is.first.entry ∷ is.first.rest) (response_metrics c.datagram es response_is.says) in
      let front = joined_of_entries n is.first.interface (with_heard s is.first.interface) is.first.state is.first.front metrics (heard_valid s is.first.interface valid)
      (interface_below n s c.link c.sender is.first.interface fits is.first.response.from) is.first.joined in
      let after = hop_is n is.first.interface (with_heard s is.first.interface) is.first.state error is.first.front is.first.rest is.first.entry front is.first.bad in
      let moved = subst (λ (j : ℕ). IsHopAfter error is.first.entry (hop_of n j error es)) is.of after in
      came_known n s c (response es) (Some i) (ap message_or_request ((below.fields es c.datagram).1 response_is.says)) (below.finds n c.link c.sender i lawful response_is.from)
      ∙ ap (taken n s i es) h
      ∙ ap (λ (x : Option ℕ). record { event = refused i error x; state = s }) (one_hop error is.first.entry (hop_of n i error es) hop moved is.after)

  joined_words : (line : ℕ) (c : Capture) (i : ℕ) (es : List Entry) (r : Result State TableError) → IsResponse n c i es → joined_message n i s (response es) ≡ r → joined_capture n s c ≡ as_cause r
      → ComesTo n s line (captured c) (taken n s i es r).event (taken n s i es r).state
  joined_words line c i es (Ok t) is h whole = record {
    entries = es;
    response = is;
    joined = is_joined below n s lawful valid fits ((record { line = line; capture = c }) ∷ []) t (record_joined n s t line c whole);
  }
  joined_words line c i es (Err error) is h whole = (refl, refused_words c i es error is h)

  request_words : (c : Capture) → message_in c.datagram ≡ Ok a_request → IsRequest n c (interface_of n c)
  request_words c is = record {
    says = λ es says. let clash : ◌≡◌ {A = Result Message WireError} (Ok a_request) (Ok (response es)) = sym is ∙ (below.fields es c.datagram).1 says in cc clash;
    sender = of_found (origin_of_capture c) (interface_of n c) refl;
  }

  no_message_words : (c : Capture) (e : WireError) → message_in c.datagram ≡ Err e → IsRequest n c (interface_of n c)
  no_message_words c e is = record {
    says = λ es says. let clash : ◌≡◌ {A = Result Message WireError} (Err e) (Ok (response es)) = sym is ∙ (below.fields es c.datagram).1 says in cc clash;
    sender = of_found (origin_of_capture c) (interface_of n c) refl;
  }

  capture_words : (line : ℕ) (c : Capture) → ComesTo n s line (captured c) (came n s (captured c)).event (came n s (captured c)).state
  capture_words line c = by (message_in c.datagram) refl (interface_of n c) refl
    where
      by : (m : Result Message WireError) → message_in c.datagram ≡ m → (o : Option ℕ) → interface_of n c ≡ o
          → let x = came_from n s (origin_of_capture c) (message_or_request m) o in ComesTo n s line (captured c) x.event x.state
      by (Err e) is o found = (refl, subst (IsRequest n c) found (no_message_words c e is))
      by (Ok a_request) is o found = (refl, subst (IsRequest n c) found (request_words c is))
      by (Ok (response es)) is None found = (refl, record { entries = es; says = (below.fields es c.datagram).0 is; nobody = of_found (origin_of_capture c) None found }, refl)
      by (Ok (response es)) is (Some i) found =
          joined_words line c i es (joined_message n i s (response es)) (record { from = below.gives n c.link c.sender i found; says = (below.fields es c.datagram).0 is }) refl
          (joined_known n s c (response es) (Some i) (ap message_or_request is) found)

  known_words : (o : Option Origin) → IsOfKnown n o (interface_at n o)
  known_words None = refl
  known_words (Some o) = of_found o (found_at n o.link o.sender) refl

  words_known : (o : Option Origin) (of : Option ℕ) → IsOfKnown n o of → interface_at n o ≡ of
  words_known None of is = sym is
  words_known (Some o) of is = found_of o of is

  -- what is computed of a line is what the words say
  pub line_words : (line : ℕ) (said : Said) → ComesTo n s line said (came n s said).event (came n s said).state
  line_words line (captured c) = capture_words line c
  line_words line (bad_line code o) = (refl, refl, refl, known_words o)

  joined_by : (line : ℕ) (c : Capture) (i : ℕ) (t : State) → IsJoinedBy n s line c i t → Is (came n s (captured c)) (joined i) t
  joined_by line c i t is =
      let said = ap message_or_request ((below.fields is.entries c.datagram).1 is.response.says) in
      let found = below.finds n c.link c.sender i lawful is.response.from in
      let whole = joined_record n s t line c (joined_is below n s lawful valid fits ((record { line = line; capture = c }) ∷ []) t is.joined) in
      came_known n s c (response is.entries) (Some i) said found
      ∙ by (joined_message n i s (response is.entries)) (sym (joined_known n s c (response is.entries) (Some i) said found) ∙ whole)
    where
      by : (r : Result State TableError) → as_cause r ≡ Ok t → Is (taken n s i is.entries r) (joined i) t
      by (Ok u) k = let same : u ≡ t = cc k in ap (λ (x : State). record { event = joined i; state = x }) same
      by (Err e) k = absurd (cc k)

  requested : (c : Capture) (of : Option ℕ) → IsRequest n c of → Is (came n s (captured c)) (request of) s
  requested c of is = by (message_in c.datagram) refl
    where
      by : (m : Result Message WireError) → message_in c.datagram ≡ m → Is (came_from n s (origin_of_capture c) (message_or_request m) (interface_of n c)) (request of) s
      by (Err e) k = ap (λ (x : Option ℕ). record { event = request x; state = s }) (found_of (origin_of_capture c) of is.sender)
      by (Ok a_request) k = ap (λ (x : Option ℕ). record { event = request x; state = s }) (found_of (origin_of_capture c) of is.sender)
      by (Ok (response es)) k = absurd (is.says es ((below.fields es c.datagram).0 k))

  unknown : (c : Capture) → IsUnknown n c → Is (came n s (captured c)) (stranger (origin_of_capture c)) s
  unknown c is =
      came_known n s c (response is.entries) None (ap message_or_request ((below.fields is.entries c.datagram).1 is.says)) (found_of (origin_of_capture c) None is.nobody)

  same_state : (x : Outcome) (e : Event) (t : State) → t ≡ s → Is x e s → Is x e t
  same_state x e t same is = is ∙ ap (λ (u : State). record { event = e; state = u }) (sym same)

  -- what the words say of a line is what is computed
  pub words_line : (line : ℕ) (said : Said) (e : Event) (t : State) → ComesTo n s line said e t → Is (came n s said) e t
  words_line line (captured c) (joined i) t is = joined_by line c i t is
  words_line line (captured c) (refused i error hop) t is = same_state (came n s (captured c)) (refused i error hop) t is.0 (words_refused c i error hop is.1)
  words_line line (captured c) (stranger o) t is =
      same_state (came n s (captured c)) (stranger o) t is.0 (unknown c is.1 ∙ ap (λ (x : Origin). record { event = stranger x; state = s }) (sym is.2))
  words_line line (captured c) (request of) t is = same_state (came n s (captured c)) (request of) t is.0 (requested c of is.1)
  words_line line (captured c) (bad code o of) t is = absurd is
  words_line line (bad_line code o) (bad why from of) t is =
      same_state (came n s (bad_line code o)) (bad why from of) t is.0
      (ap (λ (x : _). record { event = bad x o (interface_at n o); state = s }) (sym is.1)
      ∙ ap (λ (x : Option Origin). record { event = bad why x (interface_at n o); state = s }) (sym is.2)
      ∙ ap (λ (x : Option ℕ). record { event = bad why from x; state = s }) (words_known o of is.3))
  words_line line (bad_line code o) (joined i) t is = absurd is
  words_line line (bad_line code o) (refused i error hop) t is = absurd is
  words_line line (bad_line code o) (stranger from) t is = absurd is
  words_line line (bad_line code o) (request of) t is = absurd is

  keeps_captured : (c : Capture) (r : Result State TableError) (i : ℕ) (es : List Entry) → joined_capture n s c ≡ as_cause r → IsState (taken n s i es r).state × Fits n (taken n s i es r).state
  keeps_captured c (Ok t) i es h = ((is_joined below n s lawful valid fits ((record { line = 0; capture = c }) ∷ []) t (record_joined n s t 0 c h)).state, Fits-joined n s t c fits h)
  keeps_captured c (Err e) i es h = (valid, fits)

  -- the table stays one that fits
  pub line_keeps : (said : Said) → IsState (came n s said).state × Fits n (came n s said).state
  line_keeps (captured c) = by (message_of_capture c) refl (interface_of n c) refl
    where
      by : (m : Message) → message_of_capture c ≡ m → (o : Option ℕ) → interface_of n c ≡ o → let x = came_from n s (origin_of_capture c) m o in IsState x.state × Fits n x.state
      by a_request said o found = (valid, fits)
      by (response es) said None found = (valid, fits)
      by (response es) said (Some i) found = keeps_captured c (joined_message n i s (response es)) i es (joined_known n s c (response es) (Some i) said found)
  line_keeps (bad_line code o) = (valid, fits)

-- ---- lines

pub lines_words : (below : LowerLaws) (n : Network) (s : State) → IsLawful n → IsState s → Fits n s → (said : List SaidAt) → ComeTo n s said (events_of n s said) (state_after n s said)
lines_words below n s lawful valid fits [] = (refl, refl)
lines_words below n s lawful valid fits (x ∷ said) =
    let keeps = line_keeps below n s lawful valid fits x.said in
    (refl, (came n s x.said).state, line_words below n s lawful valid fits x.line x.said, lines_words below n (came n s x.said).state lawful keeps.0 keeps.1 said)

pub words_lines : (below : LowerLaws) (n : Network) (s t : State) → IsLawful n → IsState s → Fits n s → (said : List SaidAt) (events : List EventAt) → ComeTo n s said events t
    → (events_of n s said ≡ events) × (state_after n s said ≡ t)
words_lines below n s t lawful valid fits [] events is = (sym is.0, sym is.1)
words_lines below n s t lawful valid fits (x ∷ said) [] is = absurd is
words_lines below n s t lawful valid fits (x ∷ said) (e ∷ events) is =
    let here = words_line below n s lawful valid fits x.line x.said e.event is.1 is.2 in
    let state = ap (λ (o : Outcome). o.state) here in
    let keeps = line_keeps below n s lawful valid fits x.said in
    let later = words_lines below n is.1 t lawful (subst IsState state keeps.0) (subst (Fits n) state keeps.1) said events is.3 in (
      ap (λ (o : Outcome). (record { line = x.line; event = o.event }) ∷ events_of n o.state said) here
          ∙ ap (λ (l : List EventAt). (record { line = x.line; event = e.event }) ∷ l) later.0
          ∙ ap (λ (k : ℕ). (record { line = k; event = e.event }) ∷ events) (sym is.0),
      ap (λ (o : Outcome). state_after n o.state said) here ∙ later.1,
    )

pub come_to : (below : LowerLaws) (n : Network) (s t : State) → IsLawful n → IsState s → Fits n s → (said : List SaidAt) (events : List EventAt) → events_of n s said ≡ events →
    state_after n s said ≡ t
    → ComeTo n s said events t
come_to below n s t lawful valid fits said events a b =
    subst (λ (l : List EventAt). ComeTo n s said l t) a (subst (λ (u : State). ComeTo n s said (events_of n s said) u) b (lines_words below n s lawful valid fits said))

-- ---- the search for a next hop

pub hop_found : (n : Network) (i : ℕ) (p : Block) (es : List Entry) (k : ℕ) (e : Entry) → slice_get es k ≡ Some e → same_prefix e.prefix p ≡ true → is_foreign n i e ≡ true
    → hop_among n i p (drop k es) ≡ Some e.next_hop
hop_found n i p es k e at same foreign =
    ap (hop_among n i p) (drop-more es k e at)
    ∙ ap (λ (c : Bool). cond (c && is_foreign n i e) (Some e.next_hop) (hop_among n i p (drop (k + 1) es))) same
    ∙ ap (λ (c : Bool). cond c (Some e.next_hop) (hop_among n i p (drop (k + 1) es))) foreign

pub hop_other : (n : Network) (i : ℕ) (p : Block) (es : List Entry) (k : ℕ) (e : Entry) → slice_get es k ≡ Some e → same_prefix e.prefix p ≡ false
    → hop_among n i p (drop k es) ≡ hop_among n i p (drop (k + 1) es)
hop_other n i p es k e at same =
    ap (hop_among n i p) (drop-more es k e at)
    ∙ ap (λ (c : Bool). cond (c && is_foreign n i e) (Some e.next_hop) (hop_among n i p (drop (k + 1) es))) same

pub hop_local : (n : Network) (i : ℕ) (p : Block) (es : List Entry) (k : ℕ) (e : Entry) → slice_get es k ≡ Some e → is_foreign n i e ≡ false
    → hop_among n i p (drop k es) ≡ hop_among n i p (drop (k + 1) es)
hop_local n i p es k e at local = ap (hop_among n i p) (drop-more es k e at) ∙ hop_past n i p e (drop (k + 1) es) local
