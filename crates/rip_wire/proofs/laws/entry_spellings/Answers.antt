use Rattle.std.proofs.Common.{◌∙◌, ◌∷◌, ℕ, List, ap, append-nil, arith, drop, sym}
use Rattle.rip_wire.specs.Grammar.{entries_bytes, entry_bytes}
use Rattle.rip_wire.proofs.laws.entry_spellings.Goals as goal

pub returns : goal.returns
unfolding entries_bytes
returns c e b = (
  λ is. record {
    some = omega arith;
    few = omega arith;
    entries = (is.entry, tt);
    bytes = ap (λ (d : List ℕ). 2 ∷ 2 ∷ 0 ∷ 0 ∷ d) (is.bytes ∙ sym (append-nil (entry_bytes e)));
  },
  λ is. record {
    entry = is.entries.0;
    bytes = ap (drop 4) is.bytes ∙ append-nil (entry_bytes e);
  },
)
