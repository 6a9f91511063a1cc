-- What one event more makes of all that is kept.
use Rattle.std.proofs.Common.{◌≡◌, ℕ, ◌≤◌, Bool, true, false, if◌then◌else◌, List, [], ◌∷◌, ◌++◌, length, Option, Some, None, refl, ap, sym, ◌∙◌, arith}
use Rattle.std.specs.List.{slice_get}
use Rattle.std.specs.Prelude.{⊤, slice_set}
use Rattle.rip_log.specs.Said.{Origin}
use Rattle.rip_log.specs.declared.error.LogCode.{LogCode}
use Rattle.rip_table.specs.Events.{Event, EventAt, joined, refused, stranger, request, bad}
use Rattle.rip_table.specs.Tallies.{lines_where, lines_in, with_line, if_line, if_one, counts_of, counts_with, is_any_joined, is_any_refused, is_any_stranger, is_any_bad, is_other_request, is_plain_bad, interface_tally, with_event, sent_event, stranger_of, stranger_line, stranger_event, AreAtMost, AreInterfaceTallies, AreStrangers, AreTallied, StrangerRows}
use Rattle.rip_table.specs.declared.tallies.counts.Counts.{Counts}
use Rattle.rip_table.specs.declared.tallies.lines.Lines.{Lines}
use Rattle.rip_table.specs.declared.tallies.interface.InterfaceTally.{InterfaceTally}
use Rattle.rip_table.specs.declared.tallies.interface.Sent.{Sent}
use Rattle.rip_table.specs.declared.tallies.interface.Sent.TheVariants.{Joined, Refused, Bad, Asked}
use Rattle.rip_table.proofs.TallyLemmas.{kind-more, where-more, where-few, length-more, tally_more, other-made, set-tallies}
use Rattle.rip_table.proofs.StrangerLemmas.{step-none}

if-count : (b : Bool) (l : List ℕ) (n : ℕ) → length (if b then l ++ n ∷ [] else l) ≡ if_one b (length l)
if-count true l n = length-more n l
if-count false l n = refl

count-more : (is : Event → Bool) (events : List EventAt) (e : EventAt) → length (lines_where is (events ++ e ∷ [])) ≡ if_one (is e.event) (length (lines_where is events))
count-more is events e = ap length (where-more is events e) ∙ if-count (is e.event) (lines_where is events) e.line

pub counts-more : (events : List EventAt) (e : EventAt) → counts_of (events ++ e ∷ []) ≡ counts_with (counts_of events) e.event
counts-more events e = rw (count-more is_any_joined events e, count-more is_any_refused events e, count-more is_any_stranger events e, count-more is_any_bad events e) refl

-- ---- what does not concern an interface

-- an event is of no interface
abbrev pub IsOfNone : Event → Type 0
IsOfNone (joined i) = ⊥
IsOfNone (refused i error hop) = ⊥
IsOfNone (stranger o) = ⊤
IsOfNone (request None) = ⊤
IsOfNone (request (Some i)) = ⊥
IsOfNone (bad code o None) = ⊤
IsOfNone (bad code o (Some i)) = ⊥

none-step : (i : ℕ) (t : InterfaceTally) (line : ℕ) (e : Event) → IsOfNone e → with_event i t (record { line = line; event = e }) ≡ t
none-step i t line (joined j) h = absurd h
none-step i t line (refused j error hop) h = absurd h
none-step i t line (stranger o) h = other-made t
none-step i t line (request None) h = other-made t
none-step i t line (request (Some j)) h = absurd h
none-step i t line (bad code o None) h = other-made t
none-step i t line (bad code o (Some j)) h = absurd h

pub keeps-interfaces : (rows : List InterfaceTally) (events : List EventAt) (line : ℕ) (e : Event) → AreInterfaceTallies rows events → IsOfNone e →
    AreInterfaceTallies rows (events ++ (record { line = line; event = e }) ∷ [])
keeps-interfaces rows events line e h none =
    record { at = λ i below. h.at i below ∙ ap (λ (t : InterfaceTally). Some t) (sym (tally_more i events (record { line = line; event = e }) ∙ none-step i (interface_tally i events) line e none)) }

-- ---- what does not concern the lines of nobody

pub keeps-kind : (is : Event → Bool) (events : List EventAt) (e : EventAt) → is e.event ≡ false → lines_in (lines_where is (events ++ e ∷ [])) ≡ lines_in (lines_where is events)
keeps-kind is events e h = kind-more is events e ∙ rw h refl

pub adds-kind : (is : Event → Bool) (events : List EventAt) (e : EventAt) → is e.event ≡ true → lines_in (lines_where is (events ++ e ∷ [])) ≡ with_line (lines_in (lines_where is events)) e.line
adds-kind is events e h = kind-more is events e ∙ rw h refl

-- ---- each event

abbrev at_line : ℕ → Event → EventAt
at_line line e = record { line = line; event = e }

sent-stranger : (i : ℕ) (origin : Option Origin) (sent : Sent) → stranger_of (sent_event i origin sent) ≡ None
sent-stranger i origin Joined = refl
sent-stranger i origin (Refused r) = refl
sent-stranger i None (Bad code) = refl
sent-stranger i (Some o) (Bad code) = refl
sent-stranger i origin Asked = refl

sent-plain : (k i : ℕ) (origin : Option Origin) (sent : Sent) → is_plain_bad k (sent_event i origin sent) ≡ false
sent-plain k i origin Joined = refl
sent-plain k i origin (Refused r) = refl
sent-plain k i None (Bad code) = refl
sent-plain k i (Some o) (Bad code) = refl
sent-plain k i origin Asked = refl

sent-request : (i : ℕ) (origin : Option Origin) (sent : Sent) → is_other_request (sent_event i origin sent) ≡ false
sent-request i origin Joined = refl
sent-request i origin (Refused r) = refl
sent-request i origin (Bad code) = refl
sent-request i origin Asked = refl

-- the counts with one event more
pub counted : (old new : Counts) (events : List EventAt) (line : ℕ) (e : Event) → old ≡ counts_of events → new ≡ counts_with old e → new ≡ counts_of (events ++ at_line line e ∷ [])
counted old new events line e h is = is ∙ ap (λ (c : Counts). counts_with c e) h ∙ sym (counts-more events (at_line line e))

-- what an interface sent
pub tallied-sent : (counts : Counts) (rows : List InterfaceTally) (strangers : StrangerRows) (others : Lines) (plain : List Lines) (requests : Lines) (events : List EventAt) (i line : ℕ)
    (origin : Option Origin) (sent : Sent) (t : InterfaceTally) → AreTallied counts rows strangers others plain requests events →
    t ≡ with_event i (interface_tally i events) (at_line line (sent_event i origin sent)) →
    AreTallied (counts_with counts (sent_event i origin sent)) (slice_set rows i t) strangers others plain requests (events ++ at_line line (sent_event i origin sent) ∷ [])
tallied-sent counts rows strangers others plain requests events i line origin sent t h made = record {
  counted = ap (λ (c : Counts). counts_with c (sent_event i origin sent)) h.counted ∙ sym (counts-more events (at_line line (sent_event i origin sent)));
  of_interfaces = set-tallies rows events i line origin sent t h.of_interfaces made;
  of_strangers = step-none strangers others events line (sent_event i origin sent) h.of_strangers (sent-stranger i origin sent);
  codes = h.codes;
  of_lines = λ k l at. h.of_lines k l at ∙ sym (keeps-kind (is_plain_bad k) events (at_line line (sent_event i origin sent)) (sent-plain k i origin sent));
  of_requests = h.of_requests ∙ sym (keeps-kind is_other_request events (at_line line (sent_event i origin sent)) (sent-request i origin sent));
}

stranger-none : (o : Origin) (code : Option LogCode) → IsOfNone (stranger_event o code)
stranger-none o None = tt
stranger-none o (Some c) = tt

stranger-plain : (k : ℕ) (o : Origin) (code : Option LogCode) → is_plain_bad k (stranger_event o code) ≡ false
stranger-plain k o None = refl
stranger-plain k o (Some c) = refl

stranger-request : (o : Origin) (code : Option LogCode) → is_other_request (stranger_event o code) ≡ false
stranger-request o None = refl
stranger-request o (Some c) = refl

-- what a stranger sent
pub tallied-stranger : (counts : Counts) (rows : List InterfaceTally) (strangers new : StrangerRows) (others new_others : Lines) (plain : List Lines) (requests : Lines) (events : List EventAt)
    (line : ℕ) (o : Origin) (code : Option LogCode) → AreTallied counts rows strangers others plain requests events → AreStrangers new new_others (events ++ stranger_line o line code ∷ []) →
    AreTallied (counts_with counts (stranger_event o code)) rows new new_others plain requests (events ++ stranger_line o line code ∷ [])
tallied-stranger counts rows strangers new others new_others plain requests events line o code h after = record {
  counted = ap (λ (c : Counts). counts_with c (stranger_event o code)) h.counted ∙ sym (counts-more events (stranger_line o line code));
  of_interfaces = keeps-interfaces rows events line (stranger_event o code) h.of_interfaces (stranger-none o code);
  of_strangers = after;
  codes = h.codes;
  of_lines = λ k l at. h.of_lines k l at ∙ sym (keeps-kind (is_plain_bad k) events (stranger_line o line code) (stranger-plain k o code));
  of_requests = h.of_requests ∙ sym (keeps-kind is_other_request events (stranger_line o line code) (stranger-request o code));
}

-- a request of nobody that is planned
pub tallied-request : (counts : Counts) (rows : List InterfaceTally) (strangers : StrangerRows) (others : Lines) (plain : List Lines) (requests : Lines) (events : List EventAt) (line : ℕ) →
    AreTallied counts rows strangers others plain requests events → AreTallied counts rows strangers others plain (with_line requests line) (events ++ at_line line (request None) ∷ [])
tallied-request counts rows strangers others plain requests events line h = record {
  counted = h.counted ∙ sym (counts-more events (at_line line (request None)));
  of_interfaces = keeps-interfaces rows events line (request None) h.of_interfaces tt;
  of_strangers = step-none strangers others events line (request None) h.of_strangers refl;
  codes = h.codes;
  of_lines = λ k l at. h.of_lines k l at ∙ sym (keeps-kind (is_plain_bad k) events (at_line line (request None)) refl);
  of_requests = ap (λ (l : Lines). with_line l line) h.of_requests ∙ sym (adds-kind is_other_request events (at_line line (request None)) refl);
}

-- a line that is bad and of nobody
pub tallied-plain : (counts : Counts) (rows : List InterfaceTally) (strangers : StrangerRows) (others : Lines) (plain new : List Lines) (requests : Lines) (events : List EventAt) (line : ℕ)
    (code : LogCode) → AreTallied counts rows strangers others plain requests events → length new ≡ length plain →
    ((k : ℕ) (l : Lines) → slice_get new k ≡ Some l → (was : Lines) × (slice_get plain k ≡ Some was) × (l ≡ if_line (is_plain_bad k (bad code None None)) was line)) →
    AreTallied (counts_with counts (bad code None None)) rows strangers others new requests (events ++ at_line line (bad code None None) ∷ [])
tallied-plain counts rows strangers others plain new requests events line code h size added = record {
  counted = ap (λ (c : Counts). counts_with c (bad code None None)) h.counted ∙ sym (counts-more events (at_line line (bad code None None)));
  of_interfaces = keeps-interfaces rows events line (bad code None None) h.of_interfaces tt;
  of_strangers = step-none strangers others events line (bad code None None) h.of_strangers refl;
  codes = size ∙ h.codes;
  of_lines = λ k l at. let was = added k l at in was.2 ∙ ap (λ (x : Lines). if_line (is_plain_bad k (bad code None None)) x line) (h.of_lines k was.0 was.1) ∙ sym
      (kind-more (is_plain_bad k) events (at_line line (bad code None None)));
  of_requests = h.of_requests ∙ sym (keeps-kind is_other_request events (at_line line (bad code None None)) refl);
}

-- ---- how large the numbers are

count-few : (is : Event → Bool) (events : List EventAt) (n : ℕ) → length events ≤ n → length (lines_where is events) ≤ n
count-few is events n h = omega (arith, h, where-few is events)

pub counts-room : (counts : Counts) (events : List EventAt) (n : ℕ) → counts ≡ counts_of events → length events ≤ n → AreAtMost n counts
counts-room counts events n is h = rw is record {
  joined = count-few is_any_joined events n h;
  refused = count-few is_any_refused events n h;
  strangers = count-few is_any_stranger events n h;
  bad = count-few is_any_bad events n h;
}
