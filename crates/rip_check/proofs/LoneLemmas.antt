-- The route of a router without an interface.
use Rattle.std.proofs.Common.{ℕ, inl, inr, true, refl, arith}
use Rattle.rip_plan.specs.Network.{Network}
use Rattle.rip_plan.specs.PrefixNetworks.{IsNetwork}
use Rattle.rip_plan.specs.Relations.{IsDirect}
use Rattle.rip_plan.proofs.LookupLemmas.{direct_once}
use Rattle.rip_table.specs.State.{State}
use Rattle.rip_check.specs.declared.way.Way.TheVariants.{Unreachable, Here}
use Rattle.rip_check.specs.Tables.{IsOff}
use Rattle.rip_check.specs.Verdicts.{IsRead}
use Rattle.rip_check.proofs.PlanLemmas.{direct_least, direct_most}

module _ (n : Network) (plan : IsNetwork n) (shown : State) (r p : ℕ) (off : IsOff n r) where
  pub lone_here : (c : ℕ) → IsDirect n r p c → IsRead n shown r p (record { metric = c; way = Here; hidden = true })
  lone_here c direct =
      let most = direct_most n plan r p c direct in
      record {
        most = omega (arith, most);
        fits = record {
          told = record { way_fits = (direct_least n plan r p c direct, omega (arith, most)); as_told = λ i l d h. absurd (off i l d h) };
          hidden = λ i l d leaf. absurd (off i l d leaf.has);
          lone = λ none. record { own = λ d other. (refl, direct_once n plan.touched_once plan.one_on_link r p c d direct other); none = λ not. absurd (not c direct) };
        };
        hidden = (λ t. inr off, λ h. refl);
        one = inl refl;
      }

  pub lone_nowhere : ((c : ℕ) → IsDirect n r p c → ⊥) → IsRead n shown r p (record { metric = 16; way = Unreachable; hidden = true })
  lone_nowhere none =
      record {
        most = omega arith;
        fits = record {
          told = record { way_fits = refl; as_told = λ i l d h. absurd (off i l d h) };
          hidden = λ i l d leaf. absurd (off i l d leaf.has);
          lone = λ not. record { own = λ c direct. absurd (none c direct); none = λ never. (refl, refl) };
        };
        hidden = (λ t. inr off, λ h. refl);
        one = inl refl;
      }
