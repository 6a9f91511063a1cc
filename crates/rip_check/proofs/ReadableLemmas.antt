-- A place can be read exactly where a route fits.
use Rattle.std.proofs.Common.{◌≡◌, ℕ, ◌<◌, ◌≤◌, false, inl, inr, None, arith, refl, sym, ◌∙◌, length}
use Rattle.rip_plan.specs.Network.{Network}
use Rattle.rip_plan.specs.Relations.{IsLawful, IsLeaf, HasTwoInterfaces}
use Rattle.rip_plan.specs.PrefixNetworks.{IsNetwork, exchanges}
use Rattle.rip_plan.proofs.LookupLemmas.{direct_once, direct_or_not}
use Rattle.rip_plan.proofs.PrefixNetworkLemmas.{prefix_network, was_interface}
use Rattle.rip_table.specs.State.{State}
use Rattle.rip_check.specs.Networks.{block_at, network_at}
use Rattle.rip_check.specs.Tables.{Route, FitsShown, FitsThere, IsHeard, IsOff, Tells}
use Rattle.rip_check.proofs.PlanLemmas.{direct_least, direct_most}
use Rattle.rip_check.proofs.RouteLemmas.{kind_of, one_route, tables_of}
use Rattle.rip_check.specs.Metrics.{IsInRange}
use Rattle.rip_check.specs.Firsts.{CanBeRead, IsReadable, AreFine}
use Rattle.rip_check.specs.Settled.{Holds}
use Rattle.rip_check.specs.Verdicts.{IsHidden, IsRead, IsSound, ShowsTables, route_of}
use Rattle.rip_check.specs.declared.way.Way.TheVariants.{Here, Unreachable}
use Rattle.rip_check.specs.declared.routes.ReadRoute.{ReadRoute}
use Rattle.rip_check.proofs.LeafRouterLemmas.{leaf_route}

pub two_not_leaf : (n : Network) (r i l c : ℕ) → HasTwoInterfaces n r → IsLeaf n r i l c → ⊥
two_not_leaf n r i l c two leaf = two.8 (leaf.only two.0 two.2 two.4 two.6 ∙ sym (leaf.only two.1 two.3 two.5 two.7))

module _ (n : Network) (plan : IsNetwork n) (shown : State) (range : IsInRange n shown) where
  -- with two interfaces nothing is hidden
  pub two_fits : (r p : ℕ) (t : Route) → HasTwoInterfaces n r → Tells n shown r p t → FitsShown n shown r p t
  two_fits r p t two tells = record { told = tells; hidden = λ i l c leaf. absurd (two_not_leaf n r i l c two leaf); lone = λ off. absurd (off two.0 two.2 two.4 two.6) }

  pub two_read : (r p : ℕ) (t : ReadRoute) → r < length n.routers → HasTwoInterfaces n r → t.hidden ≡ false → t.metric ≤ 16 → Tells n shown r p (route_of t) → IsRead n shown r p t
  two_read r p t at two told most tells =
      let fits = two_fits r p (route_of t) two tells in
      record {
        most = most;
        fits = fits;
        hidden = (λ e. cc (e, told), λ is. absurd (two_not_hidden is));
        one = inr (λ u its. one_route n plan shown r p u (route_of t) at (two_fits r p u two its) fits);
      }
    where
      two_not_hidden : IsHidden n shown r p → ⊥
      two_not_hidden (inl is) = two_not_leaf n r is.0 is.1 is.2 two is.3
      two_not_hidden (inr off) = off two.0 two.2 two.4 two.6

  pub fits_readable : (r p : ℕ) (t : Route) → r < length n.routers → FitsShown n shown r p t → IsReadable n shown r p
  fits_readable r p t at fits =
      elim (kind_of n r) [
        | inl two ↦ (t, fits.told, inl (λ u tells. one_route n plan shown r p u t at (two_fits r p u two tells) fits))
        | inr few ↦ (t, fits.told, inr few)
      ]

  -- the route of a router without an interface
  pub lone_fits : (r p : ℕ) → IsOff n r → (t : Route) × FitsShown n shown r p t
  lone_fits r p off =
      elim (direct_or_not n r p) [
        | inl (c, direct) ↦ (
          record { metric = c; way = Here },
          record {
            told = record { way_fits = (direct_least n plan r p c direct, omega (arith, direct_most n plan r p c direct)); as_told = λ i l d h. absurd (off i l d h) };
            hidden = λ i l d leaf. absurd (off i l d leaf.has);
            lone = λ none. record { own = λ d other. (refl, direct_once n plan.touched_once plan.one_on_link r p c d direct other); none = λ not. absurd (not c direct) };
          },
        )
        | inr none ↦ (
          record { metric = 16; way = Unreachable },
          record {
            told = record { way_fits = refl; as_told = λ i l d h. absurd (off i l d h) };
            hidden = λ i l d leaf. absurd (off i l d leaf.has);
            lone = λ not. record { own = λ c direct. absurd (none c direct); none = λ not. (refl, refl) };
          },
        )
      ]

  pub readable_fits : (r p : ℕ) → r < length n.routers → IsReadable n shown r p → (t : Route) × FitsShown n shown r p t
  readable_fits r p at readable =
      elim (kind_of n r) [
        | inl two ↦ (readable.0, two_fits r p readable.0 two readable.1)
        | inr (inl (i, l, c, leaf)) ↦ leaf_route n shown r i l c p leaf plan range readable.0 readable.1
        | inr (inr off) ↦ lone_fits r p off
      ]

  pub not_readable : (r p : ℕ) → ((t : Route) → Tells n shown r p t → ⊥) → IsReadable n shown r p → ⊥
  not_readable r p none h = none h.0 h.1

-- ---- by the network of each prefix

pub one_there : (n : Network) → IsLawful n → (shown : State) (r p : ℕ) (t u : Route) → r < length n.routers → FitsThere n shown r p t → FitsThere n shown r p u → t ≡ u
one_there n plan shown r p t u at ft fu = one_route (network_at n shown.prefixes p) (prefix_network n plan (block_at shown.prefixes p)) shown r p t u at ft.fits fu.fits

module _ (n : Network) (plan : IsLawful n) (shown : State) (range : IsInRange n shown) where
  abbrev net : ℕ → Network
  net p = network_at n shown.prefixes p

  its : (p : ℕ) → IsNetwork (net p)
  its p = prefix_network n plan (block_at shown.prefixes p)

  pub range_there : (p : ℕ) → IsInRange (net p) shown
  range_there p i r l c q m h shows = let (s, was, whose) = was_interface n (exchanges n (block_at shown.prefixes p)) i r l c h in range i s l c q m was shows

  pub route_readable : (r p : ℕ) (t : Route) → r < length n.routers → FitsThere n shown r p t → CanBeRead n shown r p
  route_readable r p t at fits = record { quiet = fits.quiet; readable = fits_readable (net p) (its p) shown (range_there p) r p t at fits.fits }

  pub readable_route : (r p : ℕ) → r < length n.routers → CanBeRead n shown r p → (t : Route) × FitsThere n shown r p t
  readable_route r p at is =
      let (t, fits) = readable_fits (net p) (its p) shown (range_there p) r p at is.readable in
      (t, record { quiet = is.quiet; fits = fits })

  pub tables_shown : IsHeard n shown → AreFine n (length shown.prefixes) None (CanBeRead n shown) → ShowsTables n shown
  tables_shown heard fine =
      let made = tables_of (length n.routers) (length shown.prefixes) (λ r p t. FitsThere n shown r p t) (λ r p at known. readable_route r p at (fine r p at known tt)) in
      (made.0, record { heard = heard; fits = made.1 })

  pub shown_readable : ShowsTables n shown → AreFine n (length shown.prefixes) None (CanBeRead n shown)
  shown_readable h r p at known behind = route_readable r p (h.0 r p) at (h.1.fits r p at known)

  -- where the one route that fits holds, each does
  pub one_sound : (r p : ℕ) (t : Route) → r < length n.routers → FitsThere n shown r p t → Holds (net p) shown r p t → IsSound n shown r p
  one_sound r p t at fits holds = λ u fits'.
      let e : t ≡ u = one_there n plan shown r p t u at fits fits' in
      rw e at holds

  -- and where it does not hold, not each does
  pub one_fails : (r p : ℕ) (t : Route) → FitsThere n shown r p t → (Holds (net p) shown r p t → ⊥) → IsSound n shown r p → ⊥
  one_fails r p t fits fails sound = fails (sound t fits)
