-- The two least metrics on links that exchange a prefix, and on those that do not.
use Rattle.std.proofs.Common.{◌≡◌, ℕ, inl, inr, length, arith}
use Rattle.std.proofs.lemmas.List.{length-map}
use Rattle.rip_wire.specs.Prefix.{Block}
use Rattle.rip_plan.specs.Network.{Network}
use Rattle.rip_plan.specs.PrefixNetworks.{exchanges, interface_where, network_for}
use Rattle.rip_plan.specs.Relations.{Exchanges, IsLawful}
use Rattle.rip_table.specs.State.{State}
use Rattle.rip_check.specs.declared.links.TwoLeast.{TwoLeast}
use Rattle.rip_check.specs.Networks.{block_at}
use Rattle.rip_check.specs.TwoLeasts.{IsClosed, IsLeastShown, IsSeen, IsTwoLeastOfAll, shown_of}
use Rattle.rip_check.proofs.NetLemmas.{here, open_interface}

module _ (n : Network) (laws : IsLawful n) (b : Block) (seen : ℕ → ℕ → ℕ → ℕ) (l : ℕ) (exchanged : Exchanges n l b) where
  stays : (j s v : ℕ) → IsSeen n seen l j s v → IsSeen (network_for n b) seen l j s v
  stays j s v has = record { cost = has.cost; its = here n laws b j s l has.cost has.its exchanged; value = has.value }

  was : (j s v : ℕ) → IsSeen (network_for n b) seen l j s v → IsSeen n seen l j s v
  was j s v has = record { cost = has.cost; its = open_interface n laws b j s l has.cost exchanged has.its; value = has.value }

  -- whoever is on a link that exchanges the prefix is there in the network of the prefix
  pub least_there : (two : TwoLeast) → IsTwoLeastOfAll n seen l two → IsTwoLeastOfAll (network_for n b) seen l two
  least_there two is =
      let same : length (network_for n b).interfaces ≡ length n.interfaces = length-map n.interfaces (interface_where (exchanges n b) n) in
      record {
        most = is.most;
        order = is.order;
        least_is = elim is.least_is [
          | inl e ↦ inl e
          | inr h ↦ inr (h.0, stays h.0 two.by two.least h.1)
        ];
        next_is = elim is.next_is [
          | inl e ↦ inl e
          | inr h ↦ inr (h.0, h.1, stays h.0 h.1 two.next h.2, h.3)
        ];
        below = λ j s v lt has. is.below j s v (omega (arith, same, lt)) (was j s v has);
        others = λ j s v lt has. is.others j s v (omega (arith, same, lt)) (was j s v has);
      }

module _ (n : Network) (shown : State) (p l : ℕ) (two : TwoLeast) where
  pub open_link : IsLawful n → Exchanges n l (block_at shown.prefixes p) → (IsClosed two → ⊥) → IsTwoLeastOfAll n (shown_of shown p) l two → IsLeastShown n shown p l two
  open_link laws exchanged free is =
      record {
        open_is = λ not. (exchanged, least_there n laws (block_at shown.prefixes p) (shown_of shown p) l exchanged two is);
        shut_is = λ shut. absurd (free shut);
      }

  pub closed_link : (Exchanges n l (block_at shown.prefixes p) → ⊥) → IsClosed two → two.least ≡ 16 → two.next ≡ 16 → IsLeastShown n shown p l two
  closed_link not_exchanged shut least next =
      record {
        open_is = λ free. absurd (free shut);
        shut_is = λ same. (not_exchanged, least, next);
      }
