-- What a step says of a text that was kept before.
use Rattle.std.proofs.Common.{◌≡◌, ℕ, Bool, true, false, List, Option, Some, None, Result, Ok, Err, sym, ap, ◌∙◌, subst}
use Rattle.std.specs.Io.KnownBytes.{Keeps}
use Rattle.std.proofs.KnownBytes.{Keeps-trans}
use Rattle.rip_log.specs.Codes.{is_read}
use Rattle.rip_log.specs.Cuts.{FirstLine, HasLine, LongFirst}
use Rattle.rip_log.specs.NextCall.{text, lines_behind}
use Rattle.rip_log.specs.Lines.{lines_of}
use Rattle.rip_log.specs.Logs.{IfElse}
use Rattle.rip_log.specs.Steps.{IsPastLast, LineSays, NextSays}
use Rattle.rip_log.specs.declared.error.LogCode.{LogCode}
use Rattle.rip_log.specs.declared.error.LogError.{LogError}
use Rattle.rip_log.specs.declared.reader.FoundLine.{FoundLine}
use Rattle.rip_log.specs.declared.reader.FoundLine.TheVariants.{Record, Bad, Long}
use Rattle.rip_log.specs.declared.reader.LogReader.{LogReader}
use Rattle.rip_log.specs.declared.reader.Step.{Step}
use Rattle.rip_log.specs.declared.reader.Step.TheVariants.{Skipped, Next}

-- the first line of a text that was kept
pub first-kept : (t m new : Option (List ℕ)) (line : List ℕ) → Keeps t m → FirstLine m new line → FirstLine t new line
first-kept None m new line keeps cut = tt
first-kept (Some t) None new line keeps cut = absurd keeps
first-kept (Some t) (Some m) None line keeps cut = absurd cut
first-kept (Some t) (Some m) (Some r) line keeps cut = (ap lines_of (sym keeps) ∙ cut.0, cut.1, sym keeps ∙ cut.2)

pub long-kept : (t m : Option (List ℕ)) → Keeps t m → LongFirst m → LongFirst t
long-kept None m keeps long = tt
long-kept (Some t) None keeps long = absurd keeps
long-kept (Some t) (Some m) keeps long = (long.0, long.1, long.2, ap lines_of (sym keeps) ∙ long.3)

pub line-kept : (t m : Option (List ℕ)) → Keeps t m → HasLine m true → HasLine t true
line-kept None m keeps some = tt
line-kept (Some t) None keeps some = absurd keeps
line-kept (Some t) (Some m) keeps some = (some.0, some.1, ap lines_of (sym keeps) ∙ some.2)

failed-kept : (t m new : Option (List ℕ)) (n : ℕ) (code : LogCode) (x : Bool) → Keeps t m → IfElse x (Keeps m new) (IsPastLast m new n code)
    → IfElse x (Keeps t new) (IsPastLast t new n code)
failed-kept t m new n code true keeps says = Keeps-trans t m new keeps says
failed-kept t m new n code false keeps says = (Keeps-trans t m new keeps says.0, says.1, says.2, says.3)

module _ {R : Type 0} (t m left : Option (List ℕ)) (n : ℕ) (new : LogReader R) where
  -- what the next line says of a text that was kept before
  pub next_on : (r : Result (Option FoundLine) LogError) → Keeps t m → NextSays m n left new r → NextSays t n left new r
  next_on (Ok (Some (Record found))) keeps says = (says.0, first-kept t m left says.0 keeps says.1, says.2)
  next_on (Ok (Some (Bad found))) keeps says = (says.0, first-kept t m left says.0 keeps says.1, says.2, says.3)
  next_on (Ok (Some Long)) keeps says = (long-kept t m keeps says.0, Keeps-trans t m left keeps says.1)
  next_on (Ok None) keeps says = (Keeps-trans t m left keeps says.0, says.1)
  next_on (Err e) keeps says = failed-kept t m left n e.code (is_read e.code) keeps says

module _ {R : Type 0} (coming : R → Option (List ℕ)) (old mid new : LogReader R) where
  next_says_on : (r : Result (Option FoundLine) LogError) → lines_behind mid ≡ lines_behind old → Keeps (text coming old) (text coming mid)
      → NextSays (text coming mid) (lines_behind mid) (text coming new) new r → NextSays (text coming old) (lines_behind old) (text coming new) new r
  next_says_on r same keeps says =
      next_on (text coming old) (text coming mid) (text coming new) (lines_behind old) new r keeps
      (subst (λ (k : ℕ). NextSays (text coming mid) k (text coming new) new r) same says)

  pub says_on : (r : Result Step LogError) → lines_behind mid ≡ lines_behind old → Keeps (text coming old) (text coming mid)
      → LineSays coming mid new r → LineSays coming old new r
  says_on (Ok Skipped) same keeps says = (says.0, first-kept (text coming old) (text coming mid) (text coming new) says.0 keeps says.1, says.2)
  says_on (Ok (Next next)) same keeps says = next_says_on (Ok next) same keeps says
  says_on (Err e) same keeps says = next_says_on (Err e) same keeps says
