-- What one event more makes of the tallies.
use Rattle.std.proofs.Common.{◌≡◌, ℕ, zero, suc, ◌+◌, ◌≤◌, ◌<◌, ◌==◌, Bool, true, false, ◌&&◌, ◌||◌, not, if◌then◌else◌, List, [], ◌∷◌, ◌++◌, length, Option, Some, None, Result, Ok, Err, refl, ap, sym, arith}
use Rattle.std.proofs.Math.Dec.{eqb-suc-zero}
use Rattle.std.proofs.lemmas.Bool.{eqb-true, eqb-false}
use Rattle.std.proofs.lemmas.List.{length-set}
use Rattle.std.specs.List.{slice_get}
use Rattle.std.specs.Prelude.{OnErr, slice_set}
use Rattle.std.specs.Option.{option_map, option_or}
use Rattle.rip_plan.proofs.NumberingLemmas.{or_nothing}
use Rattle.rip_table.specs.Events.{Event, EventAt, joined, refused, stranger, request, bad}
use Rattle.rip_table.specs.Tallies.{lines_where, lines_in, last_of, with_line, if_line, first_of, outcomes_of, last_outcome, runs_in, is_joined, is_refused, is_asked, is_bad, refusal_of, code_of, interface_tally, with_event, sent_event, IsAtMost, AreInterfaceTallies, IsOfStranger}
use Rattle.rip_log.specs.Said.{Origin}
use Rattle.rip_log.specs.declared.error.LogCode.{LogCode}
use Rattle.rip_table.specs.CollectsAll.{origin_of_sender}
use Rattle.rip_table.specs.declared.events.Sender.{Sender}
use Rattle.rip_table.specs.declared.tallies.interface.InterfaceTally.{InterfaceTally}
use Rattle.rip_table.specs.declared.tallies.interface.Sent.{Sent}
use Rattle.rip_table.specs.declared.tallies.interface.Sent.TheVariants.{Joined, Refused, Bad, Asked}
use Rattle.rip_table.proofs.TruthLemmas.{and-false}

-- ---- lines

last-more : (m n : ℕ) (numbers : List ℕ) → last_of m (numbers ++ n ∷ []) ≡ n
last-more m n [] = refl
last-more m n (k ∷ numbers) = last-more k n numbers

pub length-more : (n : ℕ) (numbers : List ℕ) → length (numbers ++ n ∷ []) ≡ length numbers + 1
length-more n [] = refl
length-more n (k ∷ numbers) = omega (arith, length-more n numbers)

pub lines-more : (numbers : List ℕ) (n : ℕ) → lines_in (numbers ++ n ∷ []) ≡ with_line (lines_in numbers) n
lines-more [] n = refl
lines-more (m ∷ numbers) n = rw (length-more n (m ∷ numbers), last-more m n numbers, eqb-suc-zero (length numbers)) refl

where-step : (b c : Bool) (x n : ℕ) (l : List ℕ) →
    (if b then x ∷ (if c then l ++ n ∷ [] else l) else (if c then l ++ n ∷ [] else l)) ≡ (if c then (if b then x ∷ l else l) ++ n ∷ [] else (if b then x ∷ l else l))
where-step true true x n l = refl
where-step true false x n l = refl
where-step false true x n l = refl
where-step false false x n l = refl

pub where-more : (is : Event → Bool) (events : List EventAt) (e : EventAt) → lines_where is (events ++ e ∷ []) ≡ (if is e.event then lines_where is events ++ e.line ∷ [] else lines_where is events)
where-more is [] e = refl
where-more is (d ∷ events) e = rw (where-more is events e) (where-step (is d.event) (is e.event) d.line e.line (lines_where is events))

if-more : (b : Bool) (l : List ℕ) (n : ℕ) → lines_in (if b then l ++ n ∷ [] else l) ≡ if_line b (lines_in l) n
if-more true l n = lines-more l n
if-more false l n = refl

-- the lines of a kind with one event more
pub kind-more : (is : Event → Bool) (events : List EventAt) (e : EventAt) → lines_in (lines_where is (events ++ e ∷ [])) ≡ if_line (is e.event) (lines_in (lines_where is events)) e.line
kind-more is events e = rw (where-more is events e) (if-more (is e.event) (lines_where is events) e.line)

-- ---- the first

or-over : {X : Type 0} (a b c : Option X) → option_or a (option_or b c) ≡ option_or (option_or a b) c
or-over (Some x) b c = refl
or-over None b c = refl

pub first-more : {X : Type 0} (has : Event → Option X) (events : List EventAt) (e : EventAt) → first_of has (events ++ e ∷ []) ≡ option_or (first_of has events) (has e.event)
first-more has [] e = or_nothing (has e.event)
first-more has (d ∷ events) e = rw (first-more has events e) (or-over (has d.event) (first_of has events) (has e.event))

-- ---- outcomes

-- what one outcome more adds, by whether it is of one that was joined and of one that was refused
abbrev outcome : Bool → Bool → List Bool
outcome true r = true ∷ []
outcome false true = false ∷ []
outcome false false = []

outcome-step : (j r : Bool) (l m : List Bool) → (if j then true ∷ (l ++ m) else if r then false ∷ (l ++ m) else l ++ m) ≡ (if j then true ∷ l else if r then false ∷ l else l) ++ m
outcome-step true r l m = refl
outcome-step false true l m = refl
outcome-step false false l m = refl

outcome-one : (j r : Bool) → (if j then true ∷ [] else if r then false ∷ [] else []) ≡ outcome j r
outcome-one true r = refl
outcome-one false true = refl
outcome-one false false = refl

outcomes-more : (i : ℕ) (events : List EventAt) (e : EventAt) → outcomes_of i (events ++ e ∷ []) ≡ outcomes_of i events ++ outcome (is_joined i e.event) (is_refused i e.event)
outcomes-more i [] e = outcome-one (is_joined i e.event) (is_refused i e.event)
outcomes-more i (d ∷ events) e = rw (outcomes-more i events e) (outcome-step (is_joined i d.event) (is_refused i d.event) (outcomes_of i events) (outcome (is_joined i e.event) (is_refused i e.event)))

order-more : (was j r : Bool) (outcomes : List Bool) → last_outcome was (outcomes ++ outcome j r) ≡ (j || (last_outcome was outcomes && not r))
order-more was true r [] = refl
order-more true false true [] = refl
order-more false false true [] = refl
order-more true false false [] = refl
order-more false false false [] = refl
order-more was j r (b ∷ outcomes) = order-more b j r outcomes

-- no event is both
apart : (i : ℕ) (e : Event) → (is_joined i e && is_refused i e) ≡ false
apart i (joined j) = and-false (i == j)
apart i (refused j error hop) = refl
apart i (stranger o) = refl
apart i (request o) = refl
apart i (bad code o p) = refl

runs-more : (was j r : Bool) (outcomes : List Bool) → (j && r) ≡ false →
    runs_in was (outcomes ++ outcome j r) ≡ (if r && last_outcome was outcomes then runs_in was outcomes + 1 else runs_in was outcomes)
runs-more was true true [] h = absurd (cc h)
runs-more was true false [] h = refl
runs-more true false true [] h = refl
runs-more false false true [] h = refl
runs-more was false false [] h = refl
runs-more was j r (true ∷ outcomes) h = runs-more true j r outcomes h
runs-more true j r (false ∷ outcomes) h = rw (runs-more false j r outcomes h) (if-over (r && last_outcome false outcomes) (runs_in false outcomes))
  where
    if-over : (b : Bool) (n : ℕ) → (if b then n + 1 else n) + 1 ≡ (if b then (n + 1) + 1 else n + 1)
    if-over true n = refl
    if-over false n = refl
runs-more false j r (false ∷ outcomes) h = runs-more false j r outcomes h

-- ---- all of it

-- what an interface sent, with one event more
pub tally_more : (i : ℕ) (events : List EventAt) (e : EventAt) → interface_tally i (events ++ e ∷ []) ≡ with_event i (interface_tally i events) e
tally_more i events e =
    rw (
      kind-more (is_joined i) events e,
      kind-more (is_refused i) events e,
      outcomes-more i events e,
      runs-more true (is_joined i e.event) (is_refused i e.event) (outcomes_of i events)
          (apart i e.event),
      first-more (refusal_of i) events e,
      kind-more (is_bad i) events e,
      first-more (code_of i) events e,
      kind-more (is_asked i) events e,
      order-more true (is_joined i e.event)
          (is_refused i e.event) (outcomes_of i events),
    ) refl

-- ---- how large the numbers are

pub where-few : (is : Event → Bool) (events : List EventAt) → length (lines_where is events) ≤ length events
where-few is [] = omega arith
where-few is (e ∷ events) = few-step (is e.event) e.line (lines_where is events) (length events) (where-few is events)
  where
    few-step : (b : Bool) (x : ℕ) (l : List ℕ) (n : ℕ) → length l ≤ n → length (if b then x ∷ l else l) ≤ suc n
    few-step true x l n h = omega (arith, h)
    few-step false x l n h = omega (arith, h)

count-is : (numbers : List ℕ) → (lines_in numbers).count ≡ length numbers
count-is [] = refl
count-is (n ∷ numbers) = refl

pub lines-few : (is : Event → Bool) (events : List EventAt) (n : ℕ) → length events ≤ n → (lines_in (lines_where is events)).count ≤ n
lines-few is events n h = omega (arith, h, count-is (lines_where is events), where-few is events)

outcomes-few : (i : ℕ) (events : List EventAt) → length (outcomes_of i events) ≤ length events
outcomes-few i [] = omega arith
outcomes-few i (e ∷ events) = few-step (is_joined i e.event) (is_refused i e.event) (outcomes_of i events) (length events) (outcomes-few i events)
  where
    few-step : (j r : Bool) (l : List Bool) (n : ℕ) → length l ≤ n → length (if j then true ∷ l else if r then false ∷ l else l) ≤ suc n
    few-step true r l n h = omega (arith, h)
    few-step false true l n h = omega (arith, h)
    few-step false false l n h = omega (arith, h)

runs-few : (was : Bool) (outcomes : List Bool) → runs_in was outcomes ≤ length outcomes
runs-few was [] = omega arith
runs-few was (true ∷ outcomes) = omega (arith, runs-few true outcomes)
runs-few true (false ∷ outcomes) = omega (arith, runs-few false outcomes)
runs-few false (false ∷ outcomes) = omega (arith, runs-few false outcomes)

-- no number is above that of all events
pub room : (i : ℕ) (events : List EventAt) (n : ℕ) → length events ≤ n → IsAtMost n (interface_tally i events)
room i events n h = record {
  joined = lines-few (is_joined i) events n h;
  refused = lines-few (is_refused i) events n h;
  runs = omega (arith, h, runs-few true (outcomes_of i events), outcomes-few i events);
  bad = lines-few (is_bad i) events n h;
  requests = lines-few (is_asked i) events n h;
}

-- ---- of all interfaces

and-left : (b : Bool) → (b && true) ≡ b
and-left true = refl
and-left false = refl

-- a tally to which nothing is added
pub other-made : (t : InterfaceTally) → (record t { first_refusal = option_or t.first_refusal None; first_bad = option_or t.first_bad None; in_order = t.in_order && true }) ≡ t
other-made t = rw (or_nothing t.first_refusal, or_nothing t.first_bad, and-left t.in_order) refl

-- an event of another interface is none of this one
other-step : (i j : ℕ) (origin : Option Origin) (sent : Sent) (t : InterfaceTally) (line : ℕ) → (i == j) ≡ false → with_event i t (record { line = line; event = sent_event j origin sent }) ≡ t
other-step i j origin Joined t line h = rw h (other-made t)
other-step i j origin (Refused r) t line h = rw h (other-made t)
other-step i j origin (Bad code) t line h = rw h (other-made t)
other-step i j origin Asked t line h = rw h (other-made t)

pub get-same : {A : Type 0} (l : List A) (j : ℕ) (x : A) → j < length l → slice_get (slice_set l j x) j ≡ Some x
get-same [] j x h = absurd (omega (arith, h))
get-same (y ∷ l) zero x h = refl
get-same (y ∷ l) (suc j) x h = get-same l j x (omega (arith, h))

pub get-other : {A : Type 0} (l : List A) (i j : ℕ) (x : A) → (i ≡ j → ⊥) → slice_get (slice_set l j x) i ≡ slice_get l i
get-other [] i j x h = refl
get-other (y ∷ l) zero zero x h = absurd (h refl)
get-other (y ∷ l) zero (suc j) x h = refl
get-other (y ∷ l) (suc i) zero x h = refl
get-other (y ∷ l) (suc i) (suc j) x h = get-other l i j x (λ e. h (ap suc e))

-- the tallies with one event of an interface more
pub set-tallies : (rows : List InterfaceTally) (events : List EventAt) (j line : ℕ) (origin : Option Origin) (sent : Sent) (t : InterfaceTally) → AreInterfaceTallies rows events →
    t ≡ with_event j (interface_tally j events) (record { line = line; event = sent_event j origin sent }) →
    AreInterfaceTallies (slice_set rows j t) (events ++ (record { line = line; event = sent_event j origin sent }) ∷ [])
set-tallies rows events j line origin sent t h made = record { at = λ i below. at-one i (omega (arith, below, length-set rows j t)) (i == j) refl }
  where
    at-one : (i : ℕ) → i < length rows → (b : Bool) → (i == j) ≡ b →
        slice_get (slice_set rows j t) i ≡ Some (interface_tally i (events ++ (record { line = line; event = sent_event j origin sent }) ∷ []))
    at-one i below true same =
        let is : i ≡ j = eqb-true i j same in
        rw (is, tally_more j events (record { line = line; event = sent_event j origin sent }), sym made) (get-same rows j t (omega (arith, is, below)))
    at-one i below false other =
        rw (
          tally_more i events (record { line = line; event = sent_event j origin sent }),
          other-step i j origin sent (interface_tally i events) line other,
          get-other rows i j t
              (eqb-false i j other),
        ) (h.at i below)

-- ---- where a listener may allocate

pub on_err : {T E : Type 0} (r : Result T E) (P : Type 0) → P → OnErr r P
on_err (Ok x) P is = tt
on_err (Err e) P is = is

-- a bad line that has an origin and no interface is a stranger's
pub bad_of_stranger : (code : LogCode) (origin : Option Sender) (i : Option ℕ) (s : Sender) → ((x : ℕ) → i ≡ Some x → ⊥) → origin ≡ Some s
    → IsOfStranger (bad code (option_map origin_of_sender origin) i)
bad_of_stranger code None i s never is = cc is
bad_of_stranger code (Some t) None s never is = (origin_of_sender t, refl)
bad_of_stranger code (Some t) (Some x) s never is = absurd (never x refl)
