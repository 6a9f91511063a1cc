-- What an `IntoWrite` stands for.
use Rattle.std.specs.Prelude.{Bool, ℕ, List, Option}
use Rattle.rip_log.specs.Outcomes.{Outcome, moved}
use Rattle.rip_log.specs.Taken.{Taken}
use Rattle.rip_log.specs.declared.sink.IntoWrite.{IntoWrite}

-- the writer beneath
abbrev pub writer_of : {W : Type 0} → IntoWrite W → W
writer_of s = s.noted.writer

-- whether it has failed
abbrev pub has_failed : {W : Type 0} → IntoWrite W → Bool
has_failed s = s.failed

-- what its writes came to
abbrev pub writes_of : {W : Type 0} → IntoWrite W → List Outcome
writes_of s = s.noted.history.outcomes

-- the bytes that it has taken, and what the writer beneath holds, where `contents` says what a
-- writer holds
abbrev pub taken_by : {W : Type 0} → (W → Option (List ℕ)) → IntoWrite W → Taken
taken_by contents s = record { bytes = moved (writes_of s); beneath = contents (writer_of s) }
