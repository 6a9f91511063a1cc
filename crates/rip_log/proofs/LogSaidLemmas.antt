-- A log is what its lines say, up to the first that is bad.
use Rattle.std.proofs.Common.{◌≡◌, ◌+◌, ◌≤◌, ◌<◌, ℕ, Bool, true, false, cond, List, [], ◌∷◌, Option, Some, None, Result, Ok, Err, refl, sym, ap, ◌∙◌, arith}
use Rattle.std.proofs.Math.Dec.{leb}
use Rattle.std.specs.Option.{option_map}
use Rattle.rip_log.proofs.LogRelations.{lt-of}
use Rattle.rip_log.specs.Codes.{is_read}
use Rattle.rip_log.specs.Lines.{Capture, judge, lines_of}
use Rattle.rip_log.specs.Logs.{Gives, IfElse, Log, faulty_log, log_at, log_of, onto_log, with_line}
use Rattle.rip_log.specs.NextLineCall.{GivesLine}
use Rattle.rip_log.specs.Said.{AllSaid, Origin, Said, SameSaid, all_of, bad, captured, log_from, log_said, many_lines, said_at, said_in, with_said}
use Rattle.rip_log.specs.declared.error.LogCode.{LogCode}
use Rattle.rip_log.specs.declared.error.LogCode.TheVariants.{TooManyLines}
use Rattle.rip_log.specs.declared.error.LogError.{LogError}
use Rattle.rip_log.proofs.CodeLemmas.{else-holds}

line-said : (n : ℕ) (line : List ℕ) (judged : Result (Option Capture) LogCode) (log : Log) (all : AllSaid)
    → log ≡ log_said all → with_line n judged log ≡ log_said (with_said n (said_in line judged) all)
line-said n line (Ok None) log all e = e
line-said n line (Ok (Some capture)) log all e = ap (onto_log (record { line = n; capture = capture })) e
line-said n line (Err code) log all e = refl

all-of : (n : ℕ) → n ≤ 1000000 → leb 1000000 n ≡ true → n ≡ 1000000
all-of n few h = grind (arith, few, h)

first-said : (n : ℕ) (line : List ℕ) (log : Log) (all : AllSaid) (x : Bool) → n ≤ 1000000 → leb 1000000 n ≡ x → (n < 1000000 → log ≡ log_said all)
    → cond x (faulty_log (record { line = n + 1; code = TooManyLines })) (with_line (n + 1) (judge line) log)
    ≡ log_said (cond x many_lines (with_said (n + 1) (said_in line (judge line)) all))
first-said n line log all true few e later = ap (λ (k : ℕ). faulty_log (record { line = k + 1; code = TooManyLines })) (all-of n few e)
first-said n line log all false few e later = line-said (n + 1) line (judge line) log all (later (lt-of n e))

pub log-said : (n : ℕ) (lines : List (List ℕ)) → n ≤ 1000000 → log_of n lines ≡ log_said (all_of n lines)
log-said n [] few = refl
log-said n (line ∷ rest) few =
    first-said n line (log_of (n + 1) rest) (all_of (n + 1) rest) (leb 1000000 n) few refl (λ h. log-said (n + 1) rest (omega (arith, h)))

pub log-said_at : (n : ℕ) (t : Option (List ℕ)) → n ≤ 1000000 → log_at n t ≡ option_map log_said (said_at n t)
log-said_at n None few = refl
log-said_at n (Some t) few = ap (λ (l : Log). Some l) (log-said n (lines_of t) few)

-- what a call takes off what is to be said, a call that ends at a bad line takes off the log
module _ {X Y : Type 0} (view : X → Capture) (number : X → ℕ) (say : Y → Said) (at : Y → ℕ) where
  pub Gives-record : (a b : Option AllSaid) (x : X) (y : Y) → say y ≡ captured (view x) → at y ≡ number x → GivesLine say at a b (Ok (Some y))
      → Gives view number (option_map log_said a) (option_map log_said b) (Ok (Some x))
  Gives-record None b x y says here gives = tt
  Gives-record (Some all) b x y says here gives = (
    log_said gives.0,
    ap (option_map log_said) gives.1,
    ap log_said gives.2 ∙ ap (λ (s : Said). log_from (at y) s (log_said gives.0)) says
        ∙ ap (λ (k : ℕ). onto_log (record { line = k; capture = view x }) (log_said gives.0)) here,
  )

  pub Gives-bad : (a b : Option AllSaid) (left : Option Log) (y : Y) (e : LogError) (o : Option Origin) → say y ≡ bad e.code o → at y ≡ e.line
      → is_read e.code ≡ false → GivesLine say at a b (Ok (Some y)) → Gives view number (option_map log_said a) left (Err e)
  Gives-bad None b left y e o says here calm gives = tt
  Gives-bad (Some all) b left y e o says here calm gives =
      else-holds _ _ (is_read e.code) calm
      (ap log_said gives.2 ∙ ap (λ (s : Said). log_from (at y) s (log_said gives.0)) says
      ∙ ap (λ (k : ℕ). faulty_log (record { line = k; code = e.code })) here)

  pub Gives-end : (a b : Option AllSaid) → GivesLine say at a b (Ok None) → Gives view number (option_map log_said a) (option_map log_said b) (Ok None)
  Gives-end None b gives = tt
  Gives-end (Some all) b gives = (ap log_said gives.0, ap (option_map log_said) gives.1)

  failed-by : (all : AllSaid) (left : Option Log) (e : LogError) (x : Bool) → (x ≡ true → left ≡ Some (log_said all)) → (x ≡ false → e.line ≡ 1000001)
      → IfElse x (Unit {0}) ((all ≡ many_lines) × (e.code ≡ TooManyLines))
      → IfElse x (left ≡ Some (log_said all)) (log_said all ≡ faulty_log e)
  failed-by all left e true same here gives = same refl
  failed-by all left e false same here gives =
      ap log_said gives.0 ∙ ap (λ (k : ℕ). faulty_log (record { line = k; code = TooManyLines })) (sym (here refl))
      ∙ ap (λ (c : LogCode). faulty_log (record { line = e.line; code = c })) (sym gives.1)

  pub Gives-failed : (a b : Option AllSaid) (e : LogError) → (is_read e.code ≡ true → SameSaid a b) → (is_read e.code ≡ false → e.line ≡ 1000001)
      → GivesLine say at a b (Err e) → Gives view number (option_map log_said a) (option_map log_said b) (Err e)
  Gives-failed None b e same here gives = tt
  Gives-failed (Some all) b e same here gives = failed-by all (option_map log_said b) e (is_read e.code) (λ r. ap (option_map log_said) (same r)) here gives
