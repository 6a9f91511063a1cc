-- What one call of a device came to.
use Rattle.std.specs.Prelude.{◌≡◌, ℕ, List, Result, Ok, Err}
use Rattle.std.specs.Borrow.{Bor, MutBor}
use Rattle.std.specs.Fn.{Once}
use Rattle.std.specs.Io.{ReadsAtMost, WritesAtMost}
use Rattle.rip_log.specs.declared.device.Failed.{Failed}

-- an answer of a device as it is told: an error without what it says
abbrev pub told_answer : {E : Type 0} → Result ℕ E → Result ℕ Failed
told_answer (Ok n) = Ok n
told_answer (Err e) = Err (record {})

module _ {F R E : Type 0} (call : Once F (MutBor R × (MutBor (List ℕ) × Unit {0}))
    (Result ℕ E × (MutBor R × (MutBor (List ℕ) × Unit {0})))) (read : F) where
  -- one call of `read`, of a reader and a buffer, left these, and this is what it answered
  pub record IsRead (old new : R) (room bytes : List ℕ) (result : Result ℕ Failed) : Type 0 where
    pub reader : MutBor R
    pub buffer : MutBor (List ℕ)
    pub asked : (reader.now ≡ old) × (buffer.now ≡ room)
    pub answer : Result ℕ E
    pub left : MutBor R × (MutBor (List ℕ) × Unit {0})
    pub answered : call.post read (reader, (buffer, tt)) (answer, left)
    pub leaves : (left.0.now ≡ new) × (left.1.0.now ≡ bytes)
    pub is_told : result ≡ told_answer answer

  -- it never answers more bytes than its buffer has
  abbrev pub GivesAtMost : Type 0
  GivesAtMost =
      (reader : MutBor R) (buffer : MutBor (List ℕ)) (answer : Result ℕ E)
      (left : MutBor R × (MutBor (List ℕ) × Unit {0}))
      → call.post read (reader, (buffer, tt)) (answer, left) → ReadsAtMost answer left.1.0.now

module _ {F W E : Type 0} (call : Once F (MutBor W × (Bor (List ℕ) × Unit {0}))
    (Result ℕ E × (MutBor W × Unit {0}))) (write : F) where
  -- one call of `write`, of a writer and these bytes, left this, and this is what it answered
  pub record IsWritten (old new : W) (bytes : List ℕ) (result : Result ℕ Failed) : Type 0 where
    pub writer : MutBor W
    pub given : Bor (List ℕ)
    pub asked : (writer.now ≡ old) × (given.now ≡ bytes)
    pub answer : Result ℕ E
    pub left : MutBor W × Unit {0}
    pub answered : call.post write (writer, (given, tt)) (answer, left)
    pub leaves : left.0.now ≡ new
    pub is_told : result ≡ told_answer answer

  -- it never answers more bytes than it was given
  abbrev pub TakesAtMost : Type 0
  TakesAtMost =
      (writer : MutBor W) (given : Bor (List ℕ)) (answer : Result ℕ E)
      (left : MutBor W × Unit {0})
      → call.post write (writer, (given, tt)) (answer, left) → WritesAtMost answer given.now
