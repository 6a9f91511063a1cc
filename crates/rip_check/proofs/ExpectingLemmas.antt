-- Tables that are right have the expected routes of the plan.
use Rattle.std.proofs.Common.{◌≡◌, ℕ, ◌<◌, ◌≤◌, ◌⊎◌, inl, inr, List, [], ◌∷◌, length, arith}
use Rattle.std.proofs.lemmas.Bool.{cases_lt}
use Rattle.rip_plan.specs.Network.{Network}
use Rattle.rip_plan.specs.Relations.{Touches}
use Rattle.rip_plan.specs.PrefixNetworks.{IsNetwork}
use Rattle.rip_plan.proofs.PrefixNetworkLemmas.{prefix_network}
use Rattle.rip_check.specs.declared.way.Way.{Way}
use Rattle.rip_check.specs.declared.way.Way.TheVariants.{Unreachable, Here, Over}
use Rattle.rip_check.specs.Laws.{Case, HasRightTables, EachIsExpected, net_of}
use Rattle.rip_check.specs.Networks.{block_at}
use Rattle.rip_check.specs.Paths.{Hop, IsPath}
use Rattle.rip_check.specs.Settled.{GoesRight}
use Rattle.rip_check.specs.Tables.{FitsWay}

-- a prefix that has a path is planned
pub planned : (n : Network) → IsNetwork n → (p r : ℕ) (hops : List Hop) (v : ℕ) → IsPath n p r hops v → p < length n.prefixes
planned n plan p r [] v path = go path.1
  where
    go : Touches n path.0 p r v → p < length n.prefixes
    go (inl h) = plan.prefix_known path.0 p _ h.1
    go (inr h) = plan.prefix_known path.0 p _ h.place
planned n plan p r (h ∷ hops) v path = planned n plan p h.to hops path.1 path.4

unreachable_goes : (n : Network) (p r m : ℕ) (w : Way) → FitsWay n r p m w → m ≡ 16 → GoesRight n p r m w
unreachable_goes n p r m Unreachable fits e = tt
unreachable_goes n p r m Here fits e = absurd (omega (arith, fits.1, e))
unreachable_goes n p r m (Over l) fits e = absurd (omega (arith, fits.1, e))

module _ (k : Case) where
  its : (p : ℕ) → IsNetwork (net_of k p)
  its p = prefix_network k.net k.plan (block_at k.shown.prefixes p)

  pub right_expected : HasRightTables k → EachIsExpected k
  right_expected right =
      record {
        planned = λ r p at known is. record { right = right r p at known; way_fits = (k.shows.fits r p at known).fits.told.way_fits };
        unplanned = λ r p at known off. go r p off (right r p at known).least.reached;
      }
    where
      go : (r p : ℕ) → length k.net.prefixes ≤ p → ((k.tables r p).metric ≡ 16) ⊎ (((k.tables r p).metric < 16) × ((hops : List Hop) × IsPath (net_of k p) p r hops (k.tables r p).metric)) →
          (k.tables r p).metric ≡ 16
      go r p off (inl e) = e
      go r p off (inr h) = absurd (omega (arith, off, planned (net_of k p) (its p) p r h.1.0 (k.tables r p).metric h.1.1))

  pub expected_right : EachIsExpected k → HasRightTables k
  expected_right each r p at known =
      elim (cases_lt p (length k.net.prefixes)) [
        | inl is ↦ (each.planned r p at known is).right
        | inr off ↦
            let e = each.unplanned r p at known off in
            record {
              least = record { reached = inl e; least = λ hops w path. absurd (omega (arith, off, planned (net_of k p) (its p) p r hops w path)) };
              goes = unreachable_goes (net_of k p) p r (k.tables r p).metric (k.tables r p).way (k.shows.fits r p at known).fits.told.way_fits e;
            }
      ]
