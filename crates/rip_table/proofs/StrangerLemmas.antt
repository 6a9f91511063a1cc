-- What one line more of a stranger makes of the rows.
use Rattle.std.proofs.Common.{◌≡◌, inl, inr, ℕ, zero, suc, ◌+◌, ◌==◌, nat_le, Bool, true, false, ◌&&◌, ◌||◌, not, if◌then◌else◌, List, [], ◌∷◌, ◌++◌, length, Option, Some, None, refl, ap, sym, ◌∙◌, arith}
use Rattle.std.specs.List.{slice_get, position_from}
use Rattle.std.specs.Map.{values_of, keys_of, lookup}
use Rattle.std.specs.Option.{option_or}
use Rattle.std.specs.Prelude.{⊤, bytes_eq, string_bytes, string_eq, position}
use Rattle.std.proofs.lemmas.Bool.{and_parts, cases_Bool, false≢true, or_parts}
use Rattle.std.proofs.lemmas.Bool.Decides.{Decides-and, Decides-eqb}
use Rattle.std.proofs.lemmas.Slice.Eq.{bytes_eq-Decides}
use Rattle.std.proofs.lemmas.Iterator.Adapters.{position_from-zero}
use Rattle.std.proofs.lemmas.List.Folds.{list_any-append}
use Rattle.indexmap.specs.IndexMap.{set_value_at}
use Rattle.rip_log.specs.Said.{Origin}
use Rattle.rip_log.specs.declared.error.LogCode.{LogCode}
use Rattle.rip_table.specs.Events.{Event, EventAt, joined, refused, stranger, request, bad}
use Rattle.rip_table.specs.Tallies.{lines_where, with_line, strangers_of, lines_in, first_of, if_line, rows_of_strangers, stranger_line, stranger_event, with_row_line, with_stranger_event, StrangerRows, same_origin, is_origin_of, stranger_of, is_response_of, is_bad_of, code_of_stranger, with_told, told_after, is_of_others, stranger_tally, stranger_rows, new_row, AreStrangers}
use Rattle.rip_table.specs.declared.tallies.lines.Lines.{Lines}
use Rattle.rip_table.specs.declared.tallies.strangers.Stranger.{Stranger}
use Rattle.rip_table.specs.declared.tallies.strangers.StrangerTally.{StrangerTally}
use Rattle.rip_table.specs.declared.tallies.strangers.TheConstants.{MOST_STRANGERS}
use Rattle.rip_table.proofs.TallyLemmas.{kind-more, first-more}
use Rattle.rip_table.proofs.TruthLemmas.{or-false, or-true}

-- ---- origins that are the same

pub same-is : (o p : Origin) → same_origin o p ≡ true → o ≡ p
same-is o p h =
    let parts = and_parts (bytes_eq o.link p.link) (o.sender == p.sender) h in
    let link : o.link ≡ p.link = (bytes_eq-Decides o.link p.link).0 parts.0 in
    let sender : o.sender ≡ p.sender = (Decides-eqb o.sender p.sender).0 parts.1 in
    made o p link sender
  where
    made : (a b : Origin) → a.link ≡ b.link → a.sender ≡ b.sender → a ≡ b
    made a b l s = ap (λ (x : List ℕ). record { link = x; sender = a.sender }) l ∙ ap (λ (x : ℕ). record { link = b.link; sender = x }) s

pub same-self : (o : Origin) → same_origin o o ≡ true
same-self o = (Decides-and (bytes_eq o.link o.link) (o.sender == o.sender) (bytes_eq-Decides o.link o.link) (Decides-eqb o.sender o.sender)).1 (refl, refl)

-- ---- one event more of one stranger

pub stranger-more : (o : Origin) (events : List EventAt) (e : EventAt) → stranger_tally o (events ++ e ∷ []) ≡ with_stranger_event o (stranger_tally o events) e
stranger-more o events e = rw (kind-more (is_response_of o) events e, kind-more (is_bad_of o) events e, first-more (code_of_stranger o) events e) refl

-- ---- the rows of a map's entries

abbrev pub key_origin : Stranger → Origin
key_origin s = record { link = string_bytes s.link; sender = s.address }

pub entry-row : (es : List (Stranger × StrangerTally)) (k : ℕ) (t : StrangerTally) → slice_get (values_of es) k ≡ Some t → (o : Origin) × (slice_get (rows_of_strangers es) k ≡ Some (o, t))
entry-row [] k t h = absurd (cc h)
entry-row (e ∷ es) zero t h =
    let is : e.1 ≡ t = cc h in
    (key_origin e.0, ap (λ (x : StrangerTally). Some (key_origin e.0, x)) is)
entry-row (e ∷ es) (suc k) t h = entry-row es k t h

pub set-row : (es : List (Stranger × StrangerTally)) (k line : ℕ) (code : Option LogCode) (was t : StrangerTally) → slice_get (values_of es) k ≡ Some was →
    ((o : Origin) → t ≡ with_stranger_event o was (stranger_line o line code)) → rows_of_strangers (set_value_at es k t) ≡ with_row_line (rows_of_strangers es) k line code
set-row [] k line code was t h made = refl
set-row (e ∷ es) zero line code was t h made =
    let is : was ≡ e.1 = cc h in
    ap (λ (x : StrangerTally). (key_origin e.0, x) ∷ rows_of_strangers es) (made (key_origin e.0) ∙ ap
    (λ (w : StrangerTally). with_stranger_event (key_origin e.0) w (stranger_line (key_origin e.0) line code)) is)
set-row (e ∷ es) (suc k) line code was t h made = ap (λ (rows : StrangerRows). (key_origin e.0, e.1) ∷ rows) (set-row es k line code was t h made)

-- a key whose origin is not among them is not found
pub none-found : (key : Stranger) (es : List (Stranger × StrangerTally)) → is_origin_of (strangers_of (rows_of_strangers es)) (key_origin key) ≡ false →
    lookup (λ (s : Stranger). string_eq key.link s.link && (key.address == s.address)) es ≡ None
none-found key [] h = refl
none-found key (e ∷ es) h =
    let parts = or_parts (same_origin (key_origin key) (key_origin e.0)) (is_origin_of (strangers_of (rows_of_strangers es)) (key_origin key)) h in
    rw (parts.0) (none-found key es parts.1)

rows-more : (es : List (Stranger × StrangerTally)) (e : Stranger × StrangerTally) → rows_of_strangers (es ++ e ∷ []) ≡ rows_of_strangers es ++ (key_origin e.0, e.1) ∷ []
rows-more [] e = refl
rows-more (d ∷ es) e = ap (λ (rows : StrangerRows). (key_origin d.0, d.1) ∷ rows) (rows-more es e)

-- the number of the first key whose origin is this one
found-from : (o : Origin) (i k : ℕ) (es : List (Stranger × StrangerTally)) → position_from (λ (s : Stranger). same_origin o (key_origin s)) i (keys_of es) ≡ Some k →
    (j : ℕ) × (k ≡ i + j) × (slice_get (strangers_of (rows_of_strangers es)) j ≡ Some o)
found-from o i k [] h = absurd (cc h)
found-from o i k (e ∷ es) h = by (same_origin o (key_origin e.0)) refl (found-from o (i + 1) k es)
  where
    by : (b : Bool) → same_origin o (key_origin e.0) ≡ b →
        (position_from (λ (s : Stranger). same_origin o (key_origin s)) (i + 1) (keys_of es) ≡ Some k → (j : ℕ) × (k ≡ i + 1 + j) × (slice_get (strangers_of (rows_of_strangers es)) j ≡ Some o)) →
        (j : ℕ) × (k ≡ i + j) × (slice_get (strangers_of (rows_of_strangers (e ∷ es))) j ≡ Some o)
    by true is later =
        let here : i ≡ k = cc (h, ap (λ (b : Bool). if b then Some i else position_from (λ (s : Stranger). same_origin o (key_origin s)) (i + 1) (keys_of es)) is) in
        (0, omega (arith, here), ap Some (sym (same-is o (key_origin e.0) is)))
    by false is later =
        let rest = later (ap (λ (b : Bool). if b then Some i else position_from (λ (s : Stranger). same_origin o (key_origin s)) (i + 1) (keys_of es)) (sym is) ∙ h) in
        (suc rest.0, omega (arith, rest.1), rest.2)

pub found-at : (o : Origin) (k : ℕ) (es : List (Stranger × StrangerTally)) → position (λ (s : Stranger). same_origin o (key_origin s)) (keys_of es) ≡ Some k →
    slice_get (strangers_of (rows_of_strangers es)) k ≡ Some o
found-at o k es h =
    let found = found-from o 0 k es (sym (position_from-zero (λ (s : Stranger). same_origin o (key_origin s)) (keys_of es)) ∙ h) in
    ap (slice_get (strangers_of (rows_of_strangers es))) (omega (arith, found.1)) ∙ found.2

none-from : (o : Origin) (i : ℕ) (es : List (Stranger × StrangerTally)) → position_from (λ (s : Stranger). same_origin o (key_origin s)) i (keys_of es) ≡ None →
    is_origin_of (strangers_of (rows_of_strangers es)) o ≡ false
none-from o i [] h = refl
none-from o i (e ∷ es) h = by (same_origin o (key_origin e.0)) refl (none-from o (i + 1) es)
  where
    by : (b : Bool) → same_origin o (key_origin e.0) ≡ b →
        (position_from (λ (s : Stranger). same_origin o (key_origin s)) (i + 1) (keys_of es) ≡ None → is_origin_of (strangers_of (rows_of_strangers es)) o ≡ false) →
        is_origin_of (strangers_of (rows_of_strangers (e ∷ es))) o ≡ false
    by true is later = absurd (cc (h, ap (λ (b : Bool). if b then Some i else position_from (λ (s : Stranger). same_origin o (key_origin s)) (i + 1) (keys_of es)) is))
    by false is later = rw is (later (ap (λ (b : Bool). if b then Some i else position_from (λ (s : Stranger). same_origin o (key_origin s)) (i + 1) (keys_of es)) (sym is) ∙ h))

pub none-at : (o : Origin) (es : List (Stranger × StrangerTally)) → position (λ (s : Stranger). same_origin o (key_origin s)) (keys_of es) ≡ None →
    is_origin_of (strangers_of (rows_of_strangers es)) o ≡ false
none-at o es h = none-from o 0 es (sym (position_from-zero (λ (s : Stranger). same_origin o (key_origin s)) (keys_of es)) ∙ h)

pub rows-new : (es new : List (Stranger × StrangerTally)) (o : Origin) (key : Stranger) (t was : StrangerTally) (line : ℕ) (code : Option LogCode) → string_bytes key.link ≡ o.link →
    key.address ≡ o.sender → new ≡ es ++ (key, t) ∷ [] → was ≡ stranger_tally o [] → ((p : Origin) → t ≡ with_stranger_event p was (stranger_line p line code)) →
    rows_of_strangers new ≡ rows_of_strangers es ++ new_row o line code ∷ []
rows-new es new o key t was line code link address is none made =
    let key-is : key_origin key ≡ o = rw (link, address) refl in
    let sent : t ≡ stranger_tally o (stranger_line o line code ∷ []) =
    made o ∙ ap (λ (w : StrangerTally). with_stranger_event o w (stranger_line o line code)) none ∙ sym (stranger-more o [] (stranger_line o line code)) in
    ap rows_of_strangers is ∙ rows-more es (key, t) ∙ ap (λ (p : Origin). rows_of_strangers es ++ (p, t) ∷ []) key-is ∙ ap (λ (x : StrangerTally). rows_of_strangers es ++ (o, x) ∷ []) sent

not-same : (o p : Origin) → (o ≡ p → ⊥) → same_origin o p ≡ false
not-same o p apart = elim (cases_Bool (same_origin o p)) [ inl h ↦ absurd (apart (same-is o p h)) | inr h ↦ h ]

same-other : (o p : Origin) → same_origin o p ≡ false → same_origin p o ≡ false
same-other o p h = not-same p o (λ e. absurd (cc (h, same-self o, ap (same_origin o) e)))

-- ---- among others

among-more : (told : List Origin) (o p : Origin) → is_origin_of (told ++ p ∷ []) o ≡ (is_origin_of told o || same_origin o p)
among-more told o p = list_any-append (same_origin o) told (p ∷ []) ∙ ap (λ (b : Bool). is_origin_of told o || b) (sym (or-false (same_origin o p)))

among-at : (told : List Origin) (k : ℕ) (o p : Origin) → is_origin_of told p ≡ false → slice_get told k ≡ Some o → same_origin p o ≡ false
among-at [] k o p none h = absurd (cc h)
among-at (q ∷ told) zero o p none h =
    let is : q ≡ o = cc h in
    ap (same_origin p) (sym is) ∙ (or_parts (same_origin p q) (is_origin_of told p) none).0
among-at (q ∷ told) (suc k) o p none h = among-at told k o p (or_parts (same_origin p q) (is_origin_of told p) none).1 h

-- ---- one event more

pub told-more : (told : List Origin) (events : List EventAt) (e : EventAt) → told_after told (events ++ e ∷ []) ≡ with_told (stranger_of e.event) (told_after told events)
told-more told [] e = refl
told-more told (d ∷ events) e = told-more (with_told (stranger_of d.event) told) events e

or-nothing : (c : Option LogCode) → option_or c None ≡ c
or-nothing (Some x) = refl
or-nothing None = refl

-- a tally to which nothing is added
nothing-more : (t : StrangerTally) → (record t { first_bad = option_or t.first_bad None }) ≡ t
nothing-more t = rw (or-nothing t.first_bad) refl

-- a line of one stranger is none of another
other-stranger : (p o : Origin) (t : StrangerTally) (line : ℕ) (code : Option LogCode) → same_origin p o ≡ false → with_stranger_event p t (stranger_line o line code) ≡ t
other-stranger p o t line None h = rw h (nothing-more t)
other-stranger p o t line (Some code) h = rw h (nothing-more t)

-- nor is what no stranger sent
no-stranger : (p : Origin) (t : StrangerTally) (line : ℕ) (e : Event) → stranger_of e ≡ None → with_stranger_event p t (record { line = line; event = e }) ≡ t
no-stranger p t line (joined i) h = nothing-more t
no-stranger p t line (refused i error hop) h = nothing-more t
no-stranger p t line (stranger o) h = absurd (cc h)
no-stranger p t line (request i) h = nothing-more t
no-stranger p t line (bad code None i) h = nothing-more t
no-stranger p t line (bad code (Some o) None) h = absurd (cc h)
no-stranger p t line (bad code (Some o) (Some i)) h = nothing-more t

-- ---- rows

rows-kept : (told : List Origin) (events : List EventAt) (e : EventAt) → ((p : Origin) → is_origin_of told p ≡ true → stranger_tally p (events ++ e ∷ []) ≡ stranger_tally p events) →
    stranger_rows told (events ++ e ∷ []) ≡ stranger_rows told events
rows-kept [] events e h = refl
rows-kept (o ∷ told) events e h =
    let here = h o (ap (λ (b : Bool). b || is_origin_of told o) (same-self o)) in
    let after = rows-kept told events e (λ p among. h p (ap (λ (b : Bool). same_origin p o || b) among ∙ or-true (same_origin p o))) in
    rw (here, after) refl

-- the rows of strangers of which none is this one
rows-other : (told : List Origin) (events : List EventAt) (o : Origin) (line : ℕ) (code : Option LogCode) → is_origin_of told o ≡ false →
    stranger_rows told (events ++ stranger_line o line code ∷ []) ≡ stranger_rows told events
rows-other [] events o line code none = refl
rows-other (p ∷ told) events o line code none =
    let parts = or_parts (same_origin o p) (is_origin_of told o) none in
    let here = stranger-more p events (stranger_line o line code) ∙ other-stranger p o (stranger_tally p events) line code (same-other o p parts.0) in
    rw (here, rows-other told events o line code parts.1) refl

-- no origin stands twice
abbrev AllDiffer : List Origin → Type 0
AllDiffer [] = ⊤
AllDiffer (o ∷ told) = (is_origin_of told o ≡ false) × AllDiffer told

pub row-step : (told : List Origin) (events : List EventAt) (k : ℕ) (o : Origin) (line : ℕ) (code : Option LogCode) → AllDiffer told → slice_get told k ≡ Some o →
    with_row_line (stranger_rows told events) k line code ≡ stranger_rows told (events ++ stranger_line o line code ∷ [])
row-step [] events k o line code differ h = absurd (cc h)
row-step (p ∷ told) events zero o line code differ h =
    let is : p ≡ o = cc h in
    let none : is_origin_of told o ≡ false = ap (is_origin_of told) (sym is) ∙ differ.0 in
    rw (is, stranger-more o events (stranger_line o line code), rows-other told events o line code none) refl
row-step (p ∷ told) events (suc k) o line code differ h =
    let here = stranger-more p events (stranger_line o line code) ∙ other-stranger p o (stranger_tally p events) line code (among-at told k o p differ.0 h) in
    rw (here, sym (row-step told events k o line code differ.1 h)) refl

differ-more : (told : List Origin) (o : Origin) → AllDiffer told → is_origin_of told o ≡ false → AllDiffer (told ++ o ∷ [])
differ-more [] o differ none = (refl, tt)
differ-more (p ∷ told) o differ none =
    let parts = or_parts (same_origin o p) (is_origin_of told o) none in
    (among-more told p o ∙ rw (differ.0, same-other o p parts.0) refl, differ-more told o differ.1 parts.1)

differ-with : (e : Option Origin) (told : List Origin) → AllDiffer told → AllDiffer (with_told e told)
differ-with None told differ = differ
differ-with (Some o) told differ =
    elim (cases_Bool (is_origin_of told o || nat_le MOST_STRANGERS (length told))) [
      | inl h ↦ rw h differ
      | inr h ↦ rw h
          (differ-more told o differ (or_parts (is_origin_of told o) (nat_le MOST_STRANGERS (length told)) h).0)
    ]

pub all-differ : (told : List Origin) (events : List EventAt) → AllDiffer told → AllDiffer (told_after told events)
all-differ told [] differ = differ
all-differ told (e ∷ events) differ = all-differ (with_told (stranger_of e.event) told) events (differ-with (stranger_of e.event) told differ)

-- ---- while there is room, all strangers are told

-- there is room for another
abbrev HasRoom : List Origin → Type 0
HasRoom told = nat_le MOST_STRANGERS (length told) ≡ false

room-before : (e : Option Origin) (told : List Origin) → HasRoom (with_told e told) → HasRoom told
room-before None told h = h
room-before (Some o) told h = elim (cases_Bool (nat_le MOST_STRANGERS (length told))) [ inl full ↦ absurd (full-stays full) | inr room ↦ room ]
  where
    full-stays : nat_le MOST_STRANGERS (length told) ≡ true → ⊥
    full-stays full =
        let same : with_told (Some o) told ≡ told = rw (full, or-true (is_origin_of told o)) refl in
        cc (h, ap (λ (l : List Origin). nat_le MOST_STRANGERS (length l)) same, full)

pub room-first : (told : List Origin) (events : List EventAt) → HasRoom (told_after told events) → HasRoom told
room-first told [] h = h
room-first told (e ∷ events) h = room-before (stranger_of e.event) told (room-first (with_told (stranger_of e.event) told) events h)

-- one that is told stays so
told-with : (e : Option Origin) (told : List Origin) (o : Origin) → is_origin_of told o ≡ true → is_origin_of (with_told e told) o ≡ true
told-with None told o h = h
told-with (Some p) told o h = elim (cases_Bool (is_origin_of told p || nat_le MOST_STRANGERS (length told))) [ inl same ↦ rw same h | inr more ↦ rw more (among-more told o p ∙ rw h refl) ]

told-stays : (told : List Origin) (events : List EventAt) (o : Origin) → is_origin_of told o ≡ true → is_origin_of (told_after told events) o ≡ true
told-stays told [] o h = h
told-stays told (e ∷ events) o h = told-stays (with_told (stranger_of e.event) told) events o (told-with (stranger_of e.event) told o h)

-- one that comes while there is room is told
told-then : (o : Origin) (told : List Origin) → HasRoom told → is_origin_of (with_told (Some o) told) o ≡ true
told-then o told room = elim (cases_Bool (is_origin_of told o)) [ inl h ↦ rw h h | inr h ↦ rw (h, room) (among-more told o o ∙ rw (h, same-self o) refl) ]

-- what no one sends that is not told, where an event of this kind is of a stranger that is this one
abbrev IsOf : Origin → (Event → Bool) → Type 0
IsOf o is = (e : Event) → is e ≡ true → (p : Origin) × (stranger_of e ≡ Some p) × (same_origin o p ≡ true)

none-sent : (o : Origin) (is : Event → Bool) → IsOf o is → (told : List Origin) (events : List EventAt) → HasRoom (told_after told events) → is_origin_of (told_after told events) o ≡ false →
    lines_where is events ≡ []
none-sent o is of told [] room none = refl
none-sent o is of told (e ∷ events) room none =
    elim (cases_Bool (is e.event)) [ inl h ↦ absurd (told-anyway (of e.event h)) | inr h ↦ rw h (none-sent o is of (with_told (stranger_of e.event) told) events room none) ]
  where
    told-anyway : (p : Origin) × (stranger_of e.event ≡ Some p) × (same_origin o p ≡ true) → ⊥
    told-anyway found =
        let is-o : o ≡ found.0 = same-is o found.0 found.2 in
        let from : stranger_of e.event ≡ Some o = found.1 ∙ ap Some (sym is-o) in
        let at-first = told-then o told (room-first told (e ∷ events) room) in
        let there = told-stays (with_told (Some o) told) events o at-first in
        false≢true (sym none ∙ ap (λ (x : Option Origin). is_origin_of (told_after (with_told x told) events) o) from ∙ there)

response-is : (o : Origin) → IsOf o (is_response_of o)
response-is o (joined i) h = absurd (cc h)
response-is o (refused i error hop) h = absurd (cc h)
response-is o (stranger p) h = (p, refl, h)
response-is o (request i) h = absurd (cc h)
response-is o (bad code p i) h = absurd (cc h)

bad-is : (o : Origin) → IsOf o (is_bad_of o)
bad-is o (joined i) h = absurd (cc h)
bad-is o (refused i error hop) h = absurd (cc h)
bad-is o (stranger p) h = absurd (cc h)
bad-is o (request i) h = absurd (cc h)
bad-is o (bad code None i) h = absurd (cc h)
bad-is o (bad code (Some p) None) h = (p, refl, h)
bad-is o (bad code (Some p) (Some i)) h = absurd (cc h)

-- no line is bad, so none is the first
no-code : (o : Origin) (e : Event) → is_bad_of o e ≡ false → code_of_stranger o e ≡ None
no-code o (joined i) h = refl
no-code o (refused i error hop) h = refl
no-code o (stranger p) h = refl
no-code o (request i) h = refl
no-code o (bad code None i) h = refl
no-code o (bad code (Some p) None) h = rw h refl
no-code o (bad code (Some p) (Some i)) h = refl

no-first : (o : Origin) (events : List EventAt) → lines_where (is_bad_of o) events ≡ [] → first_of (code_of_stranger o) events ≡ None
no-first o [] h = refl
no-first o (e ∷ events) h = by (is_bad_of o e.event) refl (no-first o events)
  where
    by : (b : Bool) → is_bad_of o e.event ≡ b → (lines_where (is_bad_of o) events ≡ [] → first_of (code_of_stranger o) events ≡ None) → first_of (code_of_stranger o) (e ∷ events) ≡ None
    by true is later = absurd (cc (h, ap (λ (b : Bool). if b then e.line ∷ lines_where (is_bad_of o) events else lines_where (is_bad_of o) events) is))
    by false is later = rw (no-code o e.event is) (later (ap (λ (b : Bool). if b then e.line ∷ lines_where (is_bad_of o) events else lines_where (is_bad_of o) events) (sym is) ∙ h))

-- a stranger that is not told, while there is room, sent nothing
tally-none : (o : Origin) (events : List EventAt) → HasRoom (told_after [] events) → is_origin_of (told_after [] events) o ≡ false → stranger_tally o events ≡ stranger_tally o []
tally-none o events room none =
    let responses = none-sent o (is_response_of o) (response-is o) [] events room none in
    let bad-lines = none-sent o (is_bad_of o) (bad-is o) [] events room none in
    rw (responses, bad-lines, no-first o events bad-lines) refl

-- and nobody is one of others then
no-others : (all told : List Origin) (events : List EventAt) → HasRoom (told_after told events) → ((o : Origin) → is_origin_of (told_after told events) o ≡ true → is_origin_of all o ≡ true) →
    lines_where (is_of_others all) events ≡ []
no-others all told [] room covers = refl
no-others all told (e ∷ events) room covers = rw (here (stranger_of e.event) refl) (no-others all (with_told (stranger_of e.event) told) events room covers)
  where
    here : (s : Option Origin) → stranger_of e.event ≡ s → is_of_others all e.event ≡ false
    here None is = rw is refl
    here (Some o) is =
        let at-first = told-then o told (room-first told (e ∷ events) room) in
        let there = told-stays (with_told (Some o) told) events o at-first in
        let final : is_origin_of (told_after told (e ∷ events)) o ≡ true = ap (λ (x : Option Origin). is_origin_of (told_after (with_told x told) events) o) is ∙ there in
        rw (is, covers o final) refl

-- ---- each step

abbrev told_in : List EventAt → List Origin
told_in events = told_after [] events

pub line-of : (o : Origin) (code : Option LogCode) → stranger_of (stranger_event o code) ≡ Some o
line-of o None = refl
line-of o (Some c) = refl

others-of : (told : List Origin) (o : Origin) (code : Option LogCode) → is_of_others told (stranger_event o code) ≡ not (is_origin_of told o)
others-of told o code = rw (line-of o code) refl

others-kept : (told : List Origin) (events : List EventAt) (e : EventAt) → is_of_others told e.event ≡ false →
    lines_in (lines_where (is_of_others told) (events ++ e ∷ [])) ≡ lines_in (lines_where (is_of_others told) events)
others-kept told events e h = kind-more (is_of_others told) events e ∙ rw h refl

at-among : (told : List Origin) (k : ℕ) (o : Origin) → slice_get told k ≡ Some o → is_origin_of told o ≡ true
at-among [] k o h = absurd (cc h)
at-among (p ∷ told) zero o h =
    let is : p ≡ o = cc h in
    rw (is, same-self o) refl
at-among (p ∷ told) (suc k) o h = rw (at-among told k o h) (or-true (same_origin o p))

rows-append : (told : List Origin) (o : Origin) (events : List EventAt) → stranger_rows (told ++ o ∷ []) events ≡ stranger_rows told events ++ (o, stranger_tally o events) ∷ []
rows-append [] o events = refl
rows-append (p ∷ told) o events = ap (λ (rows : StrangerRows). (p, stranger_tally p events) ∷ rows) (rows-append told o events)

-- a line of a stranger that is told
pub step-told : (rows : StrangerRows) (others : Lines) (events : List EventAt) (k : ℕ) (o : Origin) (line : ℕ) (code : Option LogCode) → AreStrangers rows others events →
    slice_get (told_in events) k ≡ Some o → AreStrangers (with_row_line rows k line code) others (events ++ stranger_line o line code ∷ [])
step-told rows others events k o line code h at =
    let e = stranger_line o line code in
    let among = at-among (told_in events) k o at in
    let same : told_in (events ++ e ∷ []) ≡ told_in events = told-more [] events e ∙ rw (line-of o code, among) refl in
    record {
      are_told = ap (λ (r : StrangerRows). with_row_line r k line code) h.are_told ∙ row-step (told_in events) events k o line code (all-differ [] events tt) at ∙ ap
          (λ (l : List Origin). stranger_rows l (events ++ e ∷ [])) (sym same);
      are_others = h.are_others ∙ sym (others-kept (told_in events) events e (others-of (told_in events) o code ∙ rw among refl)) ∙ ap
          (λ (l : List Origin). lines_in (lines_where (is_of_others l) (events ++ e ∷ []))) (sym same);
    }

-- a line of a new one, while there is room
pub step-new : (rows : StrangerRows) (others : Lines) (events : List EventAt) (o : Origin) (line : ℕ) (code : Option LogCode) → AreStrangers rows others events →
    is_origin_of (told_in events) o ≡ false → HasRoom (told_in events) → AreStrangers (rows ++ new_row o line code ∷ []) others (events ++ stranger_line o line code ∷ [])
step-new rows others events o line code h none room =
    let e = stranger_line o line code in
    let told = told_in events in
    let all = told ++ o ∷ [] in
    let same : told_in (events ++ e ∷ []) ≡ all = told-more [] events e ∙ rw (line-of o code, none, room) refl in
    let new : (o, stranger_tally o (events ++ e ∷ [])) ≡ new_row o line code =
    ap (λ (t : StrangerTally). (o, t)) (stranger-more o events e ∙ ap (λ (t : StrangerTally). with_stranger_event o t e) (tally-none o events room none) ∙ sym (stranger-more o [] e)) in
    let before : others ≡ lines_in [] = h.are_others ∙ ap lines_in (no-others told [] events room (λ p there. there)) in
    let after : lines_where (is_of_others all) events ≡ [] = no-others all [] events room (λ p there. among-more told p o ∙ rw there refl) in
    let here : is_of_others all (stranger_event o code) ≡ false = others-of all o code ∙ rw (among-more told o o, none, same-self o) refl in
    record {
      are_told = ap (λ (r : StrangerRows). r ++ new_row o line code ∷ []) (h.are_told ∙ sym (rows-other told events o line code none)) ∙ ap
          (λ (row : Origin × StrangerTally). stranger_rows told (events ++ e ∷ []) ++ row ∷ []) (sym new) ∙ sym (rows-append told o (events ++ e ∷ [])) ∙ ap
          (λ (l : List Origin). stranger_rows l (events ++ e ∷ [])) (sym same);
      are_others = before ∙ sym (others-kept all events e here ∙ ap lines_in after) ∙ ap (λ (l : List Origin). lines_in (lines_where (is_of_others l) (events ++ e ∷ []))) (sym same);
    }

-- a line of a new one, where there is none
pub step-other : (rows : StrangerRows) (others : Lines) (events : List EventAt) (o : Origin) (line : ℕ) (code : Option LogCode) → AreStrangers rows others events →
    is_origin_of (told_in events) o ≡ false → nat_le MOST_STRANGERS (length (told_in events)) ≡ true → AreStrangers rows (with_line others line) (events ++ stranger_line o line code ∷ [])
step-other rows others events o line code h none full =
    let e = stranger_line o line code in
    let told = told_in events in
    let same : told_in (events ++ e ∷ []) ≡ told = told-more [] events e ∙ rw (line-of o code, none, full) refl in
    let here : is_of_others told (stranger_event o code) ≡ true = others-of told o code ∙ rw none refl in
    record {
      are_told = h.are_told ∙ sym (rows-other told events o line code none) ∙ ap (λ (l : List Origin). stranger_rows l (events ++ e ∷ [])) (sym same);
      are_others = ap (λ (l : Lines). with_line l line) h.are_others ∙ sym (kind-more (is_of_others told) events e ∙ ap
          (λ (b : Bool). if_line b (lines_in (lines_where (is_of_others told) events)) line) here) ∙ ap (λ (l : List Origin). lines_in (lines_where (is_of_others l) (events ++ e ∷ [])))
          (sym same);
    }

-- what no stranger sent
pub step-none : (rows : StrangerRows) (others : Lines) (events : List EventAt) (line : ℕ) (e : Event) → AreStrangers rows others events → stranger_of e ≡ None →
    AreStrangers rows others (events ++ (record { line = line; event = e }) ∷ [])
step-none rows others events line e h none =
    let at : EventAt = record { line = line; event = e } in
    let told = told_in events in
    let same : told_in (events ++ at ∷ []) ≡ told = told-more [] events at ∙ rw none refl in
    let here : is_of_others told e ≡ false = rw none refl in
    record {
      are_told = h.are_told ∙ sym (rows-kept told events at (λ p among. stranger-more p events at ∙ no-stranger p (stranger_tally p events) line e none)) ∙ ap
          (λ (l : List Origin). stranger_rows l (events ++ at ∷ [])) (sym same);
      are_others = h.are_others ∙ sym (others-kept told events at here) ∙ ap (λ (l : List Origin). lines_in (lines_where (is_of_others l) (events ++ at ∷ []))) (sym same);
    }

-- ---- of the program's rows

told-of : (told : List Origin) (events : List EventAt) → strangers_of (stranger_rows told events) ≡ told
told-of [] events = refl
told-of (o ∷ told) events = ap (λ (l : List Origin). o ∷ l) (told-of told events)

pub told-is : (rows : StrangerRows) (others : Lines) (events : List EventAt) → AreStrangers rows others events → strangers_of rows ≡ told_in events
told-is rows others events h = ap strangers_of h.are_told ∙ told-of (told_in events) events

length-of : (es : List (Stranger × StrangerTally)) → length (strangers_of (rows_of_strangers es)) ≡ length es
length-of [] = refl
length-of (e ∷ es) = ap suc (length-of es)

pub length-is : (es : List (Stranger × StrangerTally)) (others : Lines) (events : List EventAt) → AreStrangers (rows_of_strangers es) others events → length (told_in events) ≡ length es
length-is es others events h = ap length (sym (told-is (rows_of_strangers es) others events h)) ∙ length-of es

-- a row is of one that is told, with what it sent
pub row-at : (told : List Origin) (events : List EventAt) (k : ℕ) (o : Origin) (t : StrangerTally) → slice_get (stranger_rows told events) k ≡ Some (o, t) → t ≡ stranger_tally o events
row-at [] events k o t h = absurd (cc h)
row-at (p ∷ told) events zero o t h =
    let pair : (p, stranger_tally p events) ≡ (o, t) = cc h in
    sym (ap (λ (r : Origin × StrangerTally). r.1) pair) ∙ ap (λ (r : Origin × StrangerTally). stranger_tally r.0 events) pair
row-at (p ∷ told) events (suc k) o t h = row-at told events k o t h

-- an entry is its row
pub at-row : (es : List (Stranger × StrangerTally)) (k : ℕ) (e : Stranger × StrangerTally) (o : Origin) (t : StrangerTally) → slice_get es k ≡ Some e →
    slice_get (rows_of_strangers es) k ≡ Some (o, t) → (key_origin e.0 ≡ o) × (e.1 ≡ t)
at-row [] k e o t h row = absurd (cc h)
at-row (d ∷ es) zero e o t h row =
    let is : d ≡ e = cc h in
    row-is e o t (ap (λ (x : Stranger × StrangerTally). Some (key_origin x.0, x.1)) (sym is) ∙ row)
  where
    row-is : (e : Stranger × StrangerTally) (o : Origin) (t : StrangerTally) → ◌≡◌ {A = Option (Origin × StrangerTally)} (Some (key_origin e.0, e.1)) (Some (o, t)) → (key_origin e.0 ≡ o) × (e.1 ≡ t)
    row-is e o t h = let pair : (key_origin e.0, e.1) ≡ (o, t) = cc h in (ap (λ (r : Origin × StrangerTally). r.0) pair, ap (λ (r : Origin × StrangerTally). r.1) pair)
at-row (d ∷ es) (suc k) e o t h row = at-row es k e o t h row

told-row : (told : List Origin) (events : List EventAt) (k : ℕ) (o : Origin) → slice_get told k ≡ Some o → slice_get (stranger_rows told events) k ≡ Some (o, stranger_tally o events)
told-row [] events k o h = absurd (cc h)
told-row (p ∷ told) events zero o h =
    let is : p ≡ o = cc h in
    ap (λ (q : Origin). Some (q, stranger_tally q events)) is
told-row (p ∷ told) events (suc k) o h = told-row told events k o h

-- the row of a stranger that is told
pub row-of : (rows : StrangerRows) (others : Lines) (events : List EventAt) (k : ℕ) (o : Origin) → AreStrangers rows others events → slice_get (told_in events) k ≡ Some o →
    slice_get rows k ≡ Some (o, stranger_tally o events)
row-of rows others events k o h at = ap (λ (r : StrangerRows). slice_get r k) h.are_told ∙ told-row (told_in events) events k o at
