-- Which interfaces of a router are on links that exchange a prefix, and what the others tell.
use Rattle.std.proofs.Common.{◌≡◌, ◌↔◌, ℕ, ◌+◌, ◌<◌, ◌≤◌, Bool, true, false, List, Option, None, Some, get_or, length, refl, subst, arith}
use Rattle.std.specs.List.{Contains}
use Rattle.std.specs.List.Sorted.{IsStrictlyIncreasing}
use Rattle.std.proofs.lemmas.Option.{same_Some}
use Rattle.rip_plan.specs.declared.parts.Interface.{Interface}
use Rattle.rip_plan.specs.Network.{Network}
use Rattle.rip_plan.specs.Relations.{Exchanges, HasTwoInterfaces, IsInterface, IsLawful}
use Rattle.rip_table.specs.State.{State}
use Rattle.rip_check.specs.Firsts.{CanBeRead, IsFirstLoud}
use Rattle.rip_check.specs.Metrics.{metric_at}
use Rattle.rip_check.specs.Networks.{block_at, network_at}
use Rattle.rip_check.specs.Surveys.{IsLoudness, IsReach}
use Rattle.rip_check.specs.Tables.{IsQuiet, IsSilent}
use Rattle.rip_check.proofs.NetLemmas.{here, its}
use Rattle.rip_check.proofs.OwnedLemmas.{IsSoBefore, all_before, ascends_below, each_more, every, its_own, within}

-- of the interfaces of the router at the places before this one
pub record IsReachBefore (n : Network) (shown : State) (p r : ℕ) (numbers : List ℕ) (k : ℕ) (first : Option ℕ) (more : Bool) (loud : Option ℕ) : Type 0 where
  pub some : (i : ℕ) → first ≡ Some i → ((l c : ℕ) × IsInterface (network_at n shown.prefixes p) i r l c) × ((j : ℕ) × (j < k) × (get_or numbers j 0 ≡ i))
  pub least : (i : ℕ) → first ≡ Some i → (j l c : ℕ) → j < k → IsInterface n (get_or numbers j 0) r l c → Exchanges n l (block_at shown.prefixes p) → i ≤ get_or numbers j 0
  pub none : first ≡ None → (j l c : ℕ) → j < k → IsInterface n (get_or numbers j 0) r l c → Exchanges n l (block_at shown.prefixes p) → ⊥
  pub two : more ≡ true → HasTwoInterfaces (network_at n shown.prefixes p) r
  pub one : more ≡ false → (i : ℕ) → first ≡ Some i → (j l c : ℕ) → j < k → IsInterface n (get_or numbers j 0) r l c → Exchanges n l (block_at shown.prefixes p) → get_or numbers j 0 ≡ i
  pub quiet : loud ≡ None → (j l c : ℕ) → j < k → IsInterface n (get_or numbers j 0) r l c → (Exchanges n l (block_at shown.prefixes p) → ⊥) → IsSilent (metric_at shown (get_or numbers j 0) p)
  pub first_loud : (l : ℕ) → loud ≡ Some l → IsFirstLoud n shown r p l

pub none_before : (n : Network) (shown : State) (p r : ℕ) (numbers : List ℕ) → IsReachBefore n shown p r numbers 0 None false None
none_before n shown p r numbers = record {
  some = λ i e. cc e;
  least = λ i e. cc e;
  none = λ e j l c lt. absurd (omega (arith, lt));
  two = λ e. cc e;
  one = λ e i is. cc is;
  quiet = λ e j l c lt. absurd (omega (arith, lt));
  first_loud = λ l e. cc e;
}

module _ (n : Network) (laws : IsLawful n) (shown : State) (p r : ℕ) (numbers : List ℕ) (exact : (i : ℕ) → Contains numbers i ↔ ((l c : ℕ) × IsInterface n i r l c))
    (up : IsStrictlyIncreasing numbers) (k : ℕ) (own : Interface) (lt : k < length numbers) (is : IsInterface n (get_or numbers k 0) own.router own.link own.cost)
    (first : Option ℕ) (more : Bool) (loud : Option ℕ) (was : IsReachBefore n shown p r numbers k first more loud) where
  at : IsInterface n (get_or numbers k 0) r own.link own.cost
  at = its_own n r numbers exact k own lt is

  later : (i : ℕ) → ((j : ℕ) × (j < k) × (get_or numbers j 0 ≡ i)) → (j : ℕ) × (j < k + 1) × (get_or numbers j 0 ≡ i)
  later i (j, sooner, e) = (j, omega (arith, sooner), e)

  -- the interface is on a link that exchanges the prefix
  module _ (exchanged : Exchanges n own.link (block_at shown.prefixes p)) where
    there : IsInterface (network_at n shown.prefixes p) (get_or numbers k 0) r own.link own.cost
    there = here n laws (block_at shown.prefixes p) (get_or numbers k 0) r own.link own.cost at exchanged

    more_quiet : loud ≡ None → IsSoBefore n r numbers exact (λ j l. (Exchanges n l (block_at shown.prefixes p) → ⊥) → IsSilent (metric_at shown j p)) (k + 1)
    more_quiet e = each_more n r numbers exact (λ j l. (Exchanges n l (block_at shown.prefixes p) → ⊥) → IsSilent (metric_at shown j p)) k own is (was.quiet e) (λ closed. absurd (closed exchanged))

    pub another : (f : ℕ) → first ≡ Some f → IsReachBefore n shown p r numbers (k + 1) first true loud
    another f e =
        let old = was.some f e in
        let less : f < get_or numbers k 0 = omega (arith, old.1.2, ascends_below numbers up old.1.0 k old.1.1 lt) in
        record {
          some = λ i same. let h = was.some i same in (h.0, later i h.1);
          least = λ i same. each_more n r numbers exact (λ j l. Exchanges n l (block_at shown.prefixes p) → i ≤ j) k own is (was.least i same)
              (λ yes. let h = (was.some i same).1 in let sooner : i < get_or numbers k 0 = omega (arith, h.2, ascends_below numbers up h.0 k h.1 lt) in omega (arith, sooner));
          none = λ none. cc (none, e);
          two = λ yes. (f, get_or numbers k 0, old.0.0, own.link, old.0.1, own.cost, old.0.2, there, λ same. omega (arith, less, same));
          one = λ not. cc not;
          quiet = more_quiet;
          first_loud = was.first_loud;
        }

    pub first_one : first ≡ None → IsReachBefore n shown p r numbers (k + 1) (Some (get_or numbers k 0)) more loud
    first_one e = record {
      some = λ i same. subst (λ (j : ℕ). ((l c : ℕ) × IsInterface (network_at n shown.prefixes p) j r l c) × ((m : ℕ) × (m < k + 1) × (get_or numbers m 0 ≡ j))) (same_Some _ _ same)
          ((own.link, own.cost, there), (k, omega arith, refl));
      least = λ i same. each_more n r numbers exact (λ j l. Exchanges n l (block_at shown.prefixes p) → i ≤ j) k own is
          (λ j l c sooner its yes. absurd (was.none e j l c sooner its yes)) (λ yes. omega (arith, same_Some _ _ same));
      none = λ none. cc none;
      two = was.two;
      one = λ not i same. each_more n r numbers exact (λ j l. Exchanges n l (block_at shown.prefixes p) → j ≡ i) k own is
          (λ j l c sooner its yes. absurd (was.none e j l c sooner its yes)) (λ yes. same_Some _ _ same);
      quiet = more_quiet;
      first_loud = was.first_loud;
    }

  -- it is not
  module _ (closed : Exchanges n own.link (block_at shown.prefixes p) → ⊥) where
    none_more : first ≡ None → IsSoBefore n r numbers exact (λ j l. Exchanges n l (block_at shown.prefixes p) → ⊥) (k + 1)
    none_more e = each_more n r numbers exact (λ j l. Exchanges n l (block_at shown.prefixes p) → ⊥) k own is (was.none e) closed

    least_more : (i : ℕ) → first ≡ Some i → IsSoBefore n r numbers exact (λ j l. Exchanges n l (block_at shown.prefixes p) → i ≤ j) (k + 1)
    least_more i same = each_more n r numbers exact (λ j l. Exchanges n l (block_at shown.prefixes p) → i ≤ j) k own is (was.least i same) (λ yes. absurd (closed yes))

    one_more : more ≡ false → (i : ℕ) → first ≡ Some i → IsSoBefore n r numbers exact (λ j l. Exchanges n l (block_at shown.prefixes p) → j ≡ i) (k + 1)
    one_more e i same = each_more n r numbers exact (λ j l. Exchanges n l (block_at shown.prefixes p) → j ≡ i) k own is (was.one e i same) (λ yes. absurd (closed yes))

    pub loud_one : loud ≡ None → (IsSilent (metric_at shown (get_or numbers k 0) p) → ⊥) → IsReachBefore n shown p r numbers (k + 1) first more (Some own.link)
    loud_one e tells = record {
      some = λ i same. let h = was.some i same in (h.0, later i h.1);
      least = least_more;
      none = none_more;
      two = was.two;
      one = one_more;
      quiet = λ none. cc none;
      first_loud = λ l same. subst (IsFirstLoud n shown r p) (same_Some _ _ same) (record {
        interface = get_or numbers k 0;
        cost = own.cost;
        its = at;
        closed = closed;
        loud = tells;
        before = λ j m d less its. all_before n r numbers exact up (λ j l. (Exchanges n l (block_at shown.prefixes p) → ⊥) → IsSilent (metric_at shown j p)) k lt (was.quiet e) j m d less its;
      });
    }

    pub quiet_one : (loud ≡ None → IsSilent (metric_at shown (get_or numbers k 0) p)) → IsReachBefore n shown p r numbers (k + 1) first more loud
    quiet_one silent = record {
      some = λ i same. let h = was.some i same in (h.0, later i h.1);
      least = least_more;
      none = none_more;
      two = was.two;
      one = one_more;
      quiet = λ e. each_more n r numbers exact (λ j l. (Exchanges n l (block_at shown.prefixes p) → ⊥) → IsSilent (metric_at shown j p)) k own is (was.quiet e) (λ not. silent e);
      first_loud = was.first_loud;
    }

module _ (n : Network) (laws : IsLawful n) (shown : State) (p r : ℕ) (at : r < length n.routers) (numbers : List ℕ) (exact : (i : ℕ) → Contains numbers i ↔ ((l c : ℕ) × IsInterface n i r l c))
    (k : ℕ) (end : length numbers ≤ k) (first : Option ℕ) (more : Bool) (loud : Option ℕ) (is : IsReachBefore n shown p r numbers k first more loud) where
  pub reach_is : (bound : ℕ) → IsReach (network_at n shown.prefixes p) r bound first more
  reach_is bound = record {
    some = λ i e. (is.some i e).0;
    before = λ i j l c same less there.
        let was = its n laws (block_at shown.prefixes p) j r l c at there in
        let last : i ≤ j = every n r numbers exact (λ q m. Exchanges n m (block_at shown.prefixes p) → i ≤ q) k end (is.least i same) j l c was.0 was.1 in
        absurd (omega (arith, less, last));
    none = λ e i l c lt there.
        let was = its n laws (block_at shown.prefixes p) i r l c at there in
        every n r numbers exact (λ j m. Exchanges n m (block_at shown.prefixes p) → ⊥) k end (is.none e) i l c was.0 was.1;
    two = is.two;
    one = λ e i j l c same lt there.
        let was = its n laws (block_at shown.prefixes p) j r l c at there in
        every n r numbers exact (λ q m. Exchanges n m (block_at shown.prefixes p) → q ≡ i) k end (is.one e i same) j l c was.0 was.1;
  }

  pub loudness_is : (bound : ℕ) → IsLoudness n shown r p bound loud
  loudness_is bound = go loud refl
    where
      go : (o : Option ℕ) → loud ≡ o → IsLoudness n shown r p bound o
      go None e = λ i l c lt at'. every n r numbers exact (λ j m. (Exchanges n m (block_at shown.prefixes p) → ⊥) → IsSilent (metric_at shown j p)) k end (is.quiet e) i l c at'
      go (Some l) e = is.first_loud l e

-- a router that is not loud is quiet
pub not_loud : (n : Network) (shown : State) (r p : ℕ) (loud : Option ℕ) → IsLoudness n shown r p (length n.interfaces) loud → loud ≡ None → IsQuiet n shown r p
not_loud n shown r p loud is none = quiet (subst (IsLoudness n shown r p (length n.interfaces)) none is)
  where
    quiet : IsLoudness n shown r p (length n.interfaces) None → IsQuiet n shown r p
    quiet before i l c at closed = before i l c (within n i r l c at) at closed

-- and of one that is loud no route can be read
pub loud_unread : (n : Network) (shown : State) (r p : ℕ) (loud : Option ℕ) → IsLoudness n shown r p (length n.interfaces) loud → (loud ≡ None → ⊥) → CanBeRead n shown r p → ⊥
loud_unread n shown r p None is some read = some refl
loud_unread n shown r p (Some l) is some read = is.loud (read.quiet is.interface l is.cost is.its is.closed)
