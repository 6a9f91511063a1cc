-- What was told of the lines of a log.
use Rattle.std.proofs.Common.{◌≡◌, ◌↔◌, ◌⊎◌, ℕ, ◌+◌, Bool, true, false, List, [], ◌∷◌, ◌++◌, Option, Some, None, Result, Ok, Err, refl, sym, ap, ◌∙◌, subst, inl, inr, append_assoc, append-nil, arith, length-append}
use Rattle.std.specs.Prelude.{IfSome, MatchResult, OnErr}
use Rattle.rip_plan.specs.Network.{Network}
use Rattle.rip_plan.specs.Relations.{IsLawful}
use Rattle.rip_log.specs.Codes.{is_read}
use Rattle.rip_log.specs.Cuts.{PassesLines}
use Rattle.rip_log.specs.Said.{AllSaid, Said, SaidAt, all_of, onto_said, said_at}
use Rattle.rip_log.specs.NextLineCall.{GivesLine, IsUnread}
use Rattle.rip_log.specs.Lines.{lines_of}
use Rattle.rip_log.specs.Logs.{IfElse}
use Rattle.rip_log.specs.declared.error.LogCode.TheVariants as codes
use Rattle.rip_log.specs.declared.error.LogError.{LogError}
use Rattle.rip_table.specs.State.{Fits, IsState, State}
use Rattle.rip_table.specs.Events.{Event, EventAt, bad, ComeTo, all_events, came, events_of, last_event, state_after}
use Rattle.rip_table.specs.CollectsAll.{HoldsMore, IsLogError, IsRefusedMemory, SaidOutcome, StuckAtKnown, Told, ToldKnown, ToldOutcome, UnreadAtKnown}
use Rattle.rip_table.specs.declared.error.CollectAllError.{CollectAllError}
use Rattle.rip_table.specs.declared.error.CollectAllError.TheVariants.{Log as OfLog, Memory}

-- the law `lines_come_to`
abbrev pub Hearing : Type 0
Hearing = (n : Network) (old new : State) (said : List SaidAt) (events : List EventAt) → IsLawful n → IsState old → Fits n old →
    ((events_of n old said ≡ events) × (state_after n old said ≡ new)) ↔ ComeTo n old said events new

events-append : (n : Network) (s : State) (xs ys : List SaidAt) → events_of n s (xs ++ ys) ≡ events_of n s xs ++ events_of n (state_after n s xs) ys
events-append n s [] ys = refl
events-append n s (x ∷ xs) ys =
    ap (λ (l : List EventAt). (record { line = x.line; event = (came n s x.said).event }) ∷ l) (events-append n (came n s x.said).state xs ys)

state-append : (n : Network) (s : State) (xs ys : List SaidAt) → state_after n s (xs ++ ys) ≡ state_after n (state_after n s xs) ys
state-append n s [] ys = refl
state-append n s (x ∷ xs) ys = state-append n (came n s x.said).state xs ys

-- the event of a line, told of this table
abbrev pub event_at : Network → State → ℕ → Said → EventAt
event_at n s line said = record { line = line; event = (came n s said).event }

Told-more : (n : Network) (old : State) (all : AllSaid) (mid : State) (events : List EventAt) (line : ℕ) (said : Said) (here left : AllSaid) → Told n old all mid events here
    → here ≡ onto_said (record { line = line; said = said }) left → Told n old all (came n mid said).state (events ++ event_at n mid line said ∷ []) left
Told-more n old all mid events line said here left told is = record {
  taken = told.taken ++ x ∷ [];
  said = told.said ∙ ap (λ (a : AllSaid). told.taken ++ a.said) is ∙ sym (append_assoc told.taken (x ∷ []) left.said);
  too_many = told.too_many ∙ ap (λ (a : AllSaid). a.too_many) is;
  events_are =
      ap (λ (l : List EventAt). l ++ event_at n mid line said ∷ []) told.events_are
      ∙ ap (λ (s : State). events_of n old told.taken ++ event_at n s line said ∷ []) told.state_is
      ∙ sym (events-append n old told.taken (x ∷ []));
  state_is = ap (λ (s : State). (came n s said).state) told.state_is ∙ sym (state-append n old told.taken (x ∷ []));
} where
  x : SaidAt
  x = record { line = line; said = said }

-- a listener hears of some events, and then of more
pub heard-more : (was mid then : List EventAt → Type 0) (first second : List EventAt) → HoldsMore was mid first → HoldsMore mid then second → HoldsMore was then (first ++ second)
heard-more was mid then first second one two events holds = subst then (append_assoc events first second) (two (events ++ first) (one events holds))

module _ {X : Type 0} (view : X → Said) (number : X → ℕ) where
  -- a line more is told
  pub ToldKnown-more : (n : Network) (old : State) (all : Option AllSaid) (mid : State) (events : List EventAt) (here left : Option AllSaid) (x : X) → ToldKnown n old all mid events here
      → GivesLine view number here left (Ok (Some x)) → ToldKnown n old all (came n mid (view x)).state (events ++ event_at n mid (number x) (view x) ∷ []) left
  ToldKnown-more n old None mid events here left x told gives = tt
  ToldKnown-more n old (Some all) mid events None left x told gives = absurd told
  ToldKnown-more n old (Some all) mid events (Some here) left x told gives =
      subst (λ (l : Option AllSaid). ToldKnown n old (Some all) (came n mid (view x)).state (events ++ event_at n mid (number x) (view x) ∷ []) l) (sym gives.1)
      (Told-more n old all mid events (number x) (view x) here gives.0 told gives.2)

  -- or memory was refused at it
  pub stuck-at : (may : Event → Type 0) (n : Network) (old : State) (all : Option AllSaid) (mid new : State) (events : List EventAt) (here left : Option AllSaid) (x : X)
      (was between then : List EventAt → Type 0) (line : ℕ) (stopped : Bool)
      → ToldKnown n old all mid events here → HoldsMore was between events → GivesLine view number here left (Ok (Some x)) → IsRefusedMemory may n mid (view x) new (HoldsMore between then [])
      → number x ≡ line → stopped ≡ false
      → StuckAtKnown may n old all new was then line left stopped
  stuck-at may n old all mid new events here left x was between then line true told is gives allocates at runs = cc runs
  stuck-at may n old None mid new events here left x was between then line false told is gives allocates at runs = tt
  stuck-at may n old (Some all) mid new events None left x was between then line false told is gives allocates at runs = absurd told
  stuck-at may n old (Some all) mid new events (Some here) left x was between then line false told is gives allocates at runs =
      let before : Told n old all mid events (onto_said (record { line = line; said = view x }) gives.0) =
      subst (Told n old all mid events) (gives.2 ∙ ap (λ (k : ℕ). onto_said (record { line = k; said = view x }) gives.0) at) told in
      subst (λ (l : Option AllSaid). StuckAtKnown may n old (Some all) new was then line l false) (sym gives.1)
      (record { said = view x; mid = mid; events = events; told = before; allocates = by allocates })
    where
      by : IsRefusedMemory may n mid (view x) new (HoldsMore between then []) → IsRefusedMemory may n mid (view x) new (HoldsMore was then events)
      by (inl (same, allocates, untold)) = inl (same, allocates, subst (HoldsMore was then) (append-nil events) (heard-more was between then events [] is untold))
      by (inr made) = inr made

  -- no line is left
  pub told-end : (n : Network) (old : State) (all : Option AllSaid) (new : State) (events : List EventAt) (was then : List EventAt → Type 0) (here left : Option AllSaid) →
      ToldKnown n old all new events here
      → GivesLine view number here left (Ok None) → HoldsMore was then events → ToldOutcome n old all new was then (Ok tt)
  told-end n old None new events was then here left told gives is = tt
  told-end n old (Some all) new events was then None left told gives is = absurd told
  told-end n old (Some all) new events was then (Some here) left told gives is =
      let taken : all.said ≡ told.taken = told.said ∙ ap (λ (a : AllSaid). told.taken ++ a.said) gives.0 ∙ append-nil told.taken in
      let good : all.too_many ≡ false = told.too_many ∙ ap (λ (a : AllSaid). a.too_many) gives.0 in
      let whole : events ≡ all_events n old all =
      told.events_are ∙ ap (events_of n old) (sym taken) ∙ sym (append-nil (events_of n old all.said)) ∙ ap (λ (x : Bool). events_of n old all.said ++ last_event x) (sym good) in
      (subst (HoldsMore was then) whole is, told.state_is ∙ ap (state_after n old) (sym taken))

  else-q : (P Q : Type 0) (x : Bool) → x ≡ false → IfElse x P Q → Q
  else-q P Q true e h = cc e
  else-q P Q false e h = h

  -- all lines were told where the line too many is left
  many-left : (n : Network) (old : State) (all : AllSaid) (new : State) (events : List EventAt) (here : AllSaid) (left : Option AllSaid) (e : LogError) → Told n old all new events here
      → GivesLine view number (Some here) left (Err e) → e.code ≡ codes.TooManyLines → (events ≡ events_of n old all.said) × (all.too_many ≡ true) × (new ≡ state_after n old all.said)
  many-left n old all new events here left e told gives many =
      let end = (else-q _ _ (is_read e.code) (ap is_read many) gives).0 in
      let taken : all.said ≡ told.taken = told.said ∙ ap (λ (a : AllSaid). told.taken ++ a.said) end ∙ append-nil told.taken in
      (told.events_are ∙ ap (events_of n old) (sym taken), told.too_many ∙ ap (λ (a : AllSaid). a.too_many) end, told.state_is ∙ ap (state_after n old) (sym taken))

  -- there is a line too many
  pub told-last : (n : Network) (old : State) (all : Option AllSaid) (new : State) (events : List EventAt) (was mid then : List EventAt → Type 0) (here left : Option AllSaid) (e : LogError)
      (r : Result (Unit {0}) CollectAllError)
      → ToldKnown n old all new events here → GivesLine view number here left (Err e) → e.code ≡ codes.TooManyLines → e.line ≡ 1000001 → HoldsMore was mid events
      → MatchResult r (λ _. HoldsMore mid then ((record { line = e.line; event = bad codes.TooManyLines None None }) ∷ [])) (λ x. x ≡ Memory)
      → ToldOutcome n old all new was then r
  told-last n old None new events was mid then here left e (Ok u) told gives many at is ends = tt
  told-last n old None new events was mid then here left e (Err x) told gives many at is ends = tt
  told-last n old (Some all) new events was mid then None left e (Ok u) told gives many at is ends = absurd told
  told-last n old (Some all) new events was mid then (Some here) left e (Ok u) told gives many at is ends =
      let all_told = many-left n old all new events here left e told gives many in
      let whole : events ++ (record { line = e.line; event = bad codes.TooManyLines None None }) ∷ [] ≡ all_events n old all =
      ap (λ (k : ℕ). events ++ (record { line = k; event = bad codes.TooManyLines None None }) ∷ []) at
      ∙ ap (λ (l : List EventAt). l ++ last_event true) all_told.0
      ∙ ap (λ (x : Bool). events_of n old all.said ++ last_event x) (sym all_told.1) in
      (subst (HoldsMore was then) whole (heard-more was mid then events _ is ends), all_told.2)
  told-last n old (Some all) new events was mid then here left e (Err x) told gives many at is ends = tt

  -- and memory was refused at it
  pub stuck-last : (may : Event → Type 0) (n : Network) (old : State) (all : Option AllSaid) (new : State) (events : List EventAt) (was then : List EventAt → Type 0) (here left after : Option AllSaid)
      (e : LogError) (line : ℕ) (stopped : Bool)
      → ToldKnown n old all new events here → GivesLine view number here left (Err e) → e.code ≡ codes.TooManyLines → stopped ≡ true → may (bad codes.TooManyLines None None)
      → StuckAtKnown may n old all new was then line after stopped
  stuck-last may n old all new events was then here left after e line false told gives many stops allocates = cc stops
  stuck-last may n old None new events was then here left after e line true told gives many stops allocates = tt
  stuck-last may n old (Some all) new events was then None left after e line true told gives many stops allocates = absurd told
  stuck-last may n old (Some all) new events was then (Some here) left after e line true told gives many stops allocates =
      let all_told = many-left n old all new events here left e told gives many in (all_told.1, all_told.2, allocates)

  -- the reader stops where there are too many
  pub stops-last : (n : Network) (old : State) (all : Option AllSaid) (new : State) (events : List EventAt) (here left : Option AllSaid) (e : LogError) (stopped : Bool)
      → ToldKnown n old all new events here → GivesLine view number here left (Err e) → e.code ≡ codes.TooManyLines → stopped ≡ true → IfSome all (λ all. stopped ≡ all.too_many)
  stops-last n old None new events here left e stopped told gives many stops = tt
  stops-last n old (Some all) new events None left e stopped told gives many stops = absurd told
  stops-last n old (Some all) new events (Some here) left e stopped told gives many stops = stops ∙ sym (many-left n old all new events here left e told gives many).1

  -- and else it goes on
  pub stops-end : (n : Network) (old : State) (all : Option AllSaid) (new : State) (events : List EventAt) (here left : Option AllSaid) (stopped : Bool)
      → ToldKnown n old all new events here → GivesLine view number here left (Ok None) → stopped ≡ false → IfSome all (λ all. stopped ≡ all.too_many)
  stops-end n old None new events here left stopped told gives runs = tt
  stops-end n old (Some all) new events None left stopped told gives runs = absurd told
  stops-end n old (Some all) new events (Some here) left stopped told gives runs = runs ∙ sym (told.too_many ∙ ap (λ (a : AllSaid). a.too_many) gives.0)

-- of a log that is not read to its end they say nothing
pub out-err : (n : Network) (old : State) (all : Option AllSaid) (new : State) (was then : List EventAt → Type 0) (e : CollectAllError) → ToldOutcome n old all new was then (Err e)
out-err n old None new was then e = tt
out-err n old (Some all) new was then e = tt

pub said-err : (n : Network) (old : State) (all : Option AllSaid) (new : State) (was then : List EventAt → Type 0) (e : CollectAllError) → SaidOutcome n old all new was then (Err e)
said-err n old None new was then e = tt
said-err n old (Some all) new was then e = tt

-- the same in the words of the subject
pub said-told : Hearing → (n : Network) (old : State) (all : Option AllSaid) (new : State) (was then : List EventAt → Type 0) (r : Result (Unit {0}) CollectAllError) → IsLawful n → IsState old →
    Fits n old
    → ToldOutcome n old all new was then r → SaidOutcome n old all new was then r
said-told law n old None new was then (Ok u) lawful valid fits told = tt
said-told law n old None new was then (Err e) lawful valid fits told = tt
said-told law n old (Some all) new was then (Ok u) lawful valid fits told =
    (events_of n old all.said, (law n old new all.said (events_of n old all.said) lawful valid fits).0 (refl, sym told.1), told.0)
said-told law n old (Some all) new was then (Err e) lawful valid fits told = tt

-- a line could not be read, and those before it were told
pub unread-told : (n : Network) (old : State) (t mid : Option (List ℕ)) (others between behind : ℕ) (failed : Bool) (new : State) (events : List EventAt) (was then : List EventAt → Type 0)
    → PassesLines t others mid between → IsUnread mid between behind failed → ToldKnown n old (said_at others t) new events (said_at between mid) → HoldsMore was then events
    → UnreadAtKnown n old t others behind failed new was then
unread-told n old None mid others between behind failed new events was then passes is told heard = tt
unread-told n old (Some t) None others between behind failed new events was then passes is told heard = absurd passes
unread-told n old (Some t) (Some m) others between behind failed new events was then passes is told heard =
    let longer = length-append passes.0 is.0 in
    let behind-is = is.3 in
    let between-is = passes.2 in
    record {
      passed = passes.0 ++ is.0;
      rest = is.1;
      lines = passes.1 ∙ ap (λ (l : List (List ℕ)). passes.0 ++ l) is.2 ∙ sym (append_assoc passes.0 is.0 is.1);
      before = omega (arith, longer, behind-is, between-is);
      events = events;
      told = subst (Told n old (all_of others (lines_of t)) new events) is.4 told;
      heard = heard;
      cause = is.5;
    }

-- ---- which error ends the reading

pub only_read : (e : LogError) → (e.code ≡ codes.Read) ⊎ ((e.code ≡ codes.TooManyLines) × (e.line ≡ 1000001)) → (e.code ≡ codes.TooManyLines → ⊥) → e.code ≡ codes.Read
only_read e (inl read) other = read
only_read e (inr many) other = absurd (other many.0)

pub many_line : (e : LogError) → (e.code ≡ codes.Read) ⊎ ((e.code ≡ codes.TooManyLines) × (e.line ≡ 1000001)) → e.code ≡ codes.TooManyLines → e.line ≡ 1000001
many_line e (inl read) many = cc (read, many)
many_line e (inr is) many = is.1

-- the reader had not stopped
pub many_stopped : {B : Type 0} (e : LogError) (x : Bool) (n : ℕ) → e.code ≡ codes.TooManyLines → (x ≡ true → ◌≡◌ {A = Result B LogError} (Err e) (Err (record { code = codes.Ended; line = n + 1 }))) →
    x ≡ false
many_stopped e true n many was =
    let same : e ≡ record { code = codes.Ended; line = n + 1 } = cc (was refl) in
    let clash : codes.TooManyLines ≡ codes.Ended = sym many ∙ ap (λ (x : LogError). x.code) same in
    cc clash
many_stopped e false n many was = refl

pub ended_log : {B : Type 0} (e : LogError) (n m : ℕ) → ◌≡◌ {A = Result B LogError} (Err e) (Err (record { code = codes.Ended; line = n + 1 })) → n ≡ m
    → ◌≡◌ {A = Result (Unit {0}) CollectAllError} (Err (OfLog e)) (Err (OfLog (record { code = codes.Ended; line = m + 1 })))
ended_log e n m is same =
    let one : e ≡ record { code = codes.Ended; line = n + 1 } = cc is in
    ap (λ (x : LogError). Err (OfLog x)) one ∙ ap (λ (k : ℕ). Err (OfLog (record { code = codes.Ended; line = k + 1 }))) same

-- Memory is no error of the reader
pub memory_is : (e : CollectAllError) (P : LogError → Type 0) → e ≡ Memory → IsLogError (Err e) P
memory_is e P is = subst (λ (x : CollectAllError). IsLogError (Err x) P) (sym is) tt

pub ends_read : (r : Result (Unit {0}) CollectAllError) (P : LogError → Type 0) (Q : Type 0) → MatchResult r (λ _. Q) (λ x. x ≡ Memory) → IsLogError r P
ends_read (Ok u) P Q ends = tt
ends_read (Err e) P Q ends = memory_is e P ends

-- the listener was refused memory where it may be
pub allocates_last : (r : Result (Unit {0}) CollectAllError) (P : Type 0) → OnErr r P → r ≡ Err Memory → P
allocates_last (Ok u) P allocates is = cc is
allocates_last (Err e) P allocates is = allocates
