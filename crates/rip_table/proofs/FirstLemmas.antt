-- A log is refused by the first of its events that refuses.
use Rattle.std.proofs.Common.{◌≡◌, ◌⊎◌, inl, inr, ℕ, Bool, true, false, List, [], ◌∷◌, ◌++◌, Option, Some, None, Result, Ok, Err, refl, sym, ap, ◌∙◌, subst}
use Rattle.std.specs.Option.{option_map}
use Rattle.rip_log.proofs.LogRelations.{some-log}
use Rattle.rip_wire.specs.Message.{Message, request as a_request, response}
use Rattle.rip_wire.specs.declared.entry.Entry.{Entry}
use Rattle.rip_plan.specs.Network.{Network}
use Rattle.rip_log.specs.Lines.{Capture}
use Rattle.rip_log.specs.Logs.{Log}
use Rattle.rip_log.specs.Said.{AllSaid, Said, SaidAt, captured, bad as bad_line, log_from, log_said, log_up_to}
use Rattle.rip_log.specs.declared.error.LogCode.TheVariants.{TooManyLines}
use Rattle.rip_table.specs.Events.{EventAt, IsCalm, Outcome as Came, bad, came, came_from, events_of, last_event, origin_of_capture, taken}
use Rattle.rip_table.specs.Firsts.{IsFirstRefusal, IsUpToRefusal, refusal_by}
use Rattle.rip_table.specs.Joined.{Outcome, as_cause, interface_of, joined_from, joined_message, message_of_capture, outcome, refused_at, with_record}
use Rattle.rip_table.specs.State.{State}
use Rattle.rip_table.specs.declared.error.CollectCause.{CollectCause}
use Rattle.rip_table.specs.declared.error.CollectError.{CollectError}
use Rattle.rip_table.specs.declared.error.TableError.{TableError}

-- what a line came to refuses nothing, and the log goes on from the table that it leaves; or it refuses
abbrev GoesOrEnds : State → ℕ → (State → Outcome) → Came → Outcome → Type 0
GoesOrEnds s line on came result =
    (IsCalm came.event × (result ≡ on came.state))
    ⊎ ((cause : CollectCause) × (refusal_by line came.event ≡ Some cause) × (result ≡ refused_at s line cause))

module _ (n : Network) (s : State) (line : ℕ) where
  taken-line : (on : State → Outcome) (i : ℕ) (es : List Entry) (r : Result State TableError)
      → GoesOrEnds s line on (taken n s i es r) (with_record s line (as_cause r) on)
  taken-line on i es (Ok t) = inl (tt, refl)
  taken-line on i es (Err e) = inr (_, refl, refl)

  message-line : (on : State → Outcome) (c : Capture) (m : Message) (o : Option ℕ)
      → GoesOrEnds s line on (came_from n s (origin_of_capture c) m o) (with_record s line (joined_from n s m o) on)
  message-line on c a_request None = inl (tt, refl)
  message-line on c a_request (Some i) = inl (tt, refl)
  message-line on c (response es) None = inr (_, refl, refl)
  message-line on c (response es) (Some i) = taken-line on i es (joined_message n i s (response es))

  said-line : (said : Said) (log : Log) → GoesOrEnds s line (λ t. outcome n t log) (came n s said) (outcome n s (log_from line said log))
  said-line (captured c) log = message-line (λ t. outcome n t log) c (message_of_capture c) (interface_of n c)
  said-line (bad_line code o) log = inr (_, refl, refl)

module _ (n : Network) (s : State) (l : SaidAt) (said : List SaidAt) (x : Bool) where
  -- the first line refuses nothing
  goes : (t : State) (fault : Option CollectError) → IsCalm (came n s l.said).event
      → IsUpToRefusal n (came n s l.said).state (record { said = said; too_many = x }) t fault
      → IsUpToRefusal n s (record { said = l ∷ said; too_many = x }) t fault
  goes t None calm on = ((calm, on.0), on.1)
  goes t (Some e) calm on = record {
    before = l ∷ on.before;
    rest = on.rest;
    said = ap (λ (ls : List SaidAt). l ∷ ls) on.said;
    event = on.event;
    later = on.later;
    events = ap (λ (es : List EventAt). (record { line = l.line; event = (came n s l.said).event }) ∷ es) on.events;
    calm = (calm, on.calm);
    cause = on.cause;
    state = on.state;
  }

  -- it refuses
  ends : (cause : CollectCause) → refusal_by l.line (came n s l.said).event ≡ Some cause
      → IsFirstRefusal n s (record { said = l ∷ said; too_many = x }) s (record { line = l.line; cause = cause })
  ends cause is = record {
    before = [];
    rest = l ∷ said;
    said = refl;
    event = (came n s l.said).event;
    later = events_of n (came n s l.said).state said ++ last_event x;
    events = refl;
    calm = tt;
    cause = is;
    state = refl;
  }

abbrev UpTo : Network → State → AllSaid → Outcome → Type 0
UpTo n s all o = IsUpToRefusal n s all o.state o.fault

first-of : (n : Network) (s : State) (said : List SaidAt) (x : Bool) → UpTo n s (record { said = said; too_many = x }) (outcome n s (log_up_to said x))
first-of n s [] false = (tt, refl)
first-of n s [] true = record {
  before = [];
  rest = [];
  said = refl;
  event = bad TooManyLines None None;
  later = [];
  events = refl;
  calm = tt;
  cause = refl;
  state = refl;
}
first-of n s (l ∷ said) x = by (said-line n s l.line l.said (log_up_to said x)) (first-of n (came n s l.said).state said x)
  where
    by : {o : Outcome} → GoesOrEnds s l.line (λ t. outcome n t (log_up_to said x)) (came n s l.said) o
        → UpTo n (came n s l.said).state (record { said = said; too_many = x }) (outcome n (came n s l.said).state (log_up_to said x))
        → UpTo n s (record { said = l ∷ said; too_many = x }) o
    by (inl is) later =
        let on = outcome n (came n s l.said).state (log_up_to said x) in
        subst (UpTo n s (record { said = l ∷ said; too_many = x })) (sym is.1) (goes n s l said x on.state on.fault is.0 later)
    by (inr is) later = subst (UpTo n s (record { said = l ∷ said; too_many = x })) (sym is.2) (ends n s l said x is.0 is.1)

pub first-refusal : (n : Network) (s : State) (log : Log) (all : AllSaid) {l : Option Log} {a : Option AllSaid}
    → l ≡ option_map log_said a → l ≡ Some log → a ≡ Some all → UpTo n s all (outcome n s log)
first-refusal n s log all same is_log is_all =
    subst (λ (g : Log). UpTo n s all (outcome n s g))
    (sym (some-log log (log_said all) (sym is_log ∙ same ∙ ap (option_map log_said) is_all))) (first-of n s all.said all.too_many)
