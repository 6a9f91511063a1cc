-- What a feed stands for.
use Rattle.std.specs.Prelude.{ℕ, List, Option, slice_range, vec_len}
use Rattle.std.specs.Io.KnownBytes.{prepend_known}
use Rattle.rip_log.specs.declared.feed.Feed.{Feed}

-- the bytes that were given and nobody has taken
abbrev pub held : {R : Type 0} → Feed R → List ℕ
held f = slice_range f.buffer.items f.start f.end

-- how many bytes it has room for
abbrev pub room : {R : Type 0} → Feed R → ℕ
room f = vec_len f.buffer

-- the text to come: what is held, and then what the source still gives
abbrev pub text : {R : Type 0} → (R → Option (List ℕ)) → Feed R → Option (List ℕ)
text coming f = prepend_known (held f) (coming f.source)
