use Rattle.std.proofs.Common.{◌≡◌, ℕ, List, drop, string_bytes}
use Rattle.std.specs.HashMap.{get_by_text}
use Rattle.std.specs.List.{position_from}
use Rattle.std.specs.Str.{bytes_eq}
use Rattle.rip_plan.proofs.index.numbers_of_names.Given as goal

abbrev pub invariant-loop-k : goal.invariant-loop-k
invariant-loop-k l = (name : List ℕ) → get_by_text l.numbers name ≡ position_from (λ other. bytes_eq (string_bytes other) name) l.k (drop l.k l.names)
