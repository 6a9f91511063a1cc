-- A table fits a plan in one way.
use Rattle.std.specs.Prelude.{◌≡◌, ℕ, List, ◌++◌, false}
use Rattle.std.specs.Coded.{Coded, Coded-set, code_by, coded×, coded_bool, coded_list, coded_ℕ}
use Rattle.std.proofs.lemmas.List.{append_cancel_left}
use mathlib.Core.HLevel.{is_prop→PathP}
use mathlib.Core.Path.{refl, sym, ◌∙◌}
use Rattle.rip_wire.specs.Prefix.{Block, block}
use Rattle.rip_plan.specs.Network.{Network}
use Rattle.rip_plan.specs.Relations.{IsPrefix}
use Rattle.rip_table.specs.State.{Fits, State, is_among}

abbrev blocks_code : Coded (List Block)
blocks_code =
    coded_list (code_by (ℕ × ℕ) (coded× coded_ℕ coded_ℕ) (λ p. (p.network, p.prefix_len))
    (λ h. block h.0 h.1) (λ p. refl))

pub Fits-prop : {n : Network} {s : State} → IsProp (Fits n s)
Fits-prop {n} {s} a b =
    let same = append_cancel_left n.prefixes a.others b.others (sym a.prefixes ∙ b.prefixes) in
    λ i. record {
      interfaces = Coded-set coded_ℕ _ _ a.interfaces b.interfaces i;
      others = same i;
      prefixes = is_prop→PathP (λ j. s.prefixes ≡ n.prefixes ++ same j)
          (λ j. Coded-set blocks_code _ _) a.prefixes b.prefixes i;
      unplanned = is_prop→PathP
          (λ j. (k : ℕ) (p : Block) → IsPrefix n k p → is_among p (same j) ≡ false)
          (λ j x y l k p is. Coded-set coded_bool _ _ (x k p is) (y k p is) l)
          a.unplanned b.unplanned i;
    }
