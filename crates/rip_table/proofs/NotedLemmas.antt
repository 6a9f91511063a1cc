-- Which numbers of prefixes were noted.
use Rattle.std.proofs.Common.{take, ◌≡◌, ℕ, ◌+◌, Bool, true, false, cond, List, Option, Some, None, is_some, refl, sym, ap, ◌∙◌}
use Rattle.std.specs.List.{slice_get}
use Rattle.std.specs.Option.{option_or}
use Rattle.rip_plan.proofs.NumberingLemmas.{same_is}
use Rattle.rip_wire.specs.Prefix.{Block}
use Rattle.rip_wire.specs.declared.entry.Entry.{Entry}
use Rattle.rip_plan.specs.Network.{number_of_prefix}
use Rattle.rip_plan.specs.Passes.{same_prefix}
use Rattle.rip_table.specs.Numbers.{flag_of, metric_among}
use Rattle.rip_table.proofs.PrefixListLemmas.{take-more}
use Rattle.rip_table.proofs.NumberLemmas.{metric_among-snoc, true-false}

-- the flags of the numbers of these entries are up
abbrev pub IsNoted : List Block → List Entry → List Bool → Type 0
IsNoted prefixes es flags = (p : Block) (k : ℕ) → number_of_prefix p prefixes ≡ Some k → is_some (metric_among p es) ≡ true → flag_of flags k ≡ true

-- one more entry is noted, where the flag of its number, if any, is up
pub noted-more : (prefixes : List Block) (es : List Entry) (j : ℕ) (e : Entry) (old new : List Bool) → slice_get es j ≡ Some e → IsNoted prefixes (take j es) old
    → ((k : ℕ) → flag_of old k ≡ true → flag_of new k ≡ true) → ((k : ℕ) → number_of_prefix e.prefix prefixes ≡ Some k → flag_of new k ≡ true)
    → IsNoted prefixes (take (j + 1) es) new
noted-more prefixes es j e old new here noted kept up p k number some =
    by (metric_among p (take j es)) refl (same_prefix p e.prefix) refl
    (sym (ap is_some (ap (metric_among p) (take-more es j e here) ∙ metric_among-snoc p (take j es) e)) ∙ some)
  where
    by : (o : Option ℕ) → metric_among p (take j es) ≡ o → (b : Bool) → same_prefix p e.prefix ≡ b →
        is_some (option_or (metric_among p (take j es)) (cond (same_prefix p e.prefix) (Some e.metric) None)) ≡ true
        → flag_of new k ≡ true
    by (Some m) is b same known = kept k (noted p k number (ap is_some is))
    by None is true same known = up k (sym (ap (λ (q : Block). number_of_prefix q prefixes) (same_is p e.prefix same)) ∙ number)
    by None is false same known = absurd (cc (rw (is, same) at known))

-- an entry whose number's flag is down has a prefix that none of these has
pub not-noted : (prefixes : List Block) (es : List Entry) (p : Block) (k : ℕ) (flags : List Bool) → IsNoted prefixes es flags → number_of_prefix p prefixes ≡ Some k → flag_of flags k ≡ false
    → metric_among p es ≡ None
not-noted prefixes es p k flags noted number down = by (metric_among p es) refl
  where
    by : (o : Option ℕ) → metric_among p es ≡ o → o ≡ None
    by None is = refl
    by (Some m) is = true-false (flag_of flags k) (noted p k number (ap is_some is)) down

-- the same of an entry with this number, if any, where it does not seem to be noted
pub new-noted : (prefixes : List Block) (es : List Entry) (p : Block) (number : Option ℕ) (flags : List Bool) (seems : Bool) → IsNoted prefixes es flags → number ≡ number_of_prefix p prefixes
    → ((k : ℕ) → number ≡ Some k → seems ≡ flag_of flags k) → (number ≡ None → seems ≡ true) → seems ≡ false → metric_among p es ≡ None
new-noted prefixes es p None flags seems noted is fresh unnumbered down = true-false seems (unnumbered refl) down
new-noted prefixes es p (Some k) flags seems noted is fresh unnumbered down = not-noted prefixes es p k flags noted (sym is) (sym (fresh k refl) ∙ down)
