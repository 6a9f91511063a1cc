-- What a `FromRead` stands for.
use Rattle.std.specs.Prelude.{Bool, ℕ, List, Option}
use Rattle.rip_log.specs.Marks.{is_broken, is_ended, left_at}
use Rattle.rip_log.specs.Outcomes.{Outcome, moved}
use Rattle.rip_log.specs.declared.source.FromRead.{FromRead}

-- the reader beneath
abbrev pub reader_of : {R : Type 0} → FromRead R → R
reader_of s = s.noted.reader

-- whether it has failed
abbrev pub has_failed : {R : Type 0} → FromRead R → Bool
has_failed s = is_broken s.mark

-- whether it has come to its end
abbrev pub has_ended : {R : Type 0} → FromRead R → Bool
has_ended s = is_ended s.mark

-- what is still to come, where `remaining` says what a reader has left
abbrev pub left_of : {R : Type 0} → (R → Option (List ℕ)) → FromRead R → Option (List ℕ)
left_of remaining s = left_at s.mark (remaining s.noted.reader)

-- what its reads came to
abbrev pub reads_of : {R : Type 0} → FromRead R → List Outcome
reads_of s = s.noted.history.outcomes

-- the bytes that it has given
abbrev pub given_by : {R : Type 0} → FromRead R → List ℕ
given_by s = moved (reads_of s)
