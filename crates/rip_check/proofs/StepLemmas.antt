-- One more interface among the two least metrics of a link.
use Rattle.std.proofs.Common.{◌≡◌, ◌≢◌, ℕ, ◌+◌, ◌<◌, ◌≤◌, ◌⊎◌, inl, inr, List, Some, slice_get, slice_set, get_or, length, sym, ◌∙◌, ap, arith}
use Rattle.std.proofs.lemmas.Bool.{cases_lt, cases_eq}
use Rattle.std.proofs.lemmas.Option.{get_or_from_slice_get, slice_get_within, slice_get-get_or}
use Rattle.std.proofs.lemmas.List.{get_or-set_other}
use Rattle.std.proofs.lemmas.Grind.{get_or-set_at, common_steps}
use Rattle.rip_plan.specs.Network.{Network}
use Rattle.rip_plan.specs.Relations.{IsInterface}
use Rattle.rip_check.specs.declared.links.TwoLeast.{TwoLeast}
use Rattle.rip_check.specs.TwoLeasts.{AreTwoLeastBefore, IsSeen, IsTwoLeast}
use Rattle.rip_check.proofs.OwnedLemmas.{its_link}

module _ (n : Network) (seen : ℕ → ℕ → ℕ → ℕ) (l i : ℕ) where
  -- an interface before the next place is an earlier one, or the one here
  split : (Q : ℕ → ℕ → Type 0) → ((j s v : ℕ) → j < i → IsSeen n seen l j s v → Q s v) → ((s v : ℕ) → IsSeen n seen l i s v → Q s v) →
      (j s v : ℕ) → j < i + 1 → IsSeen n seen l j s v → Q s v
  split Q before here j s v lt has =
      elim (cases_lt j i) [
        | inl less ↦ before j s v less has
        | inr big ↦
            let e : j ≡ i = omega arith in
            here s v (rw e at has)
      ]

  same : (r s m v : ℕ) → IsSeen n seen l i r m → IsSeen n seen l i s v → (s ≡ r) × (v ≡ m)
  same r s m v a b =
      let e = (its_link n i s l b.cost r l a.cost b.its a.its).0 in
      (e, b.value ∙ ap (λ x. seen l i x) e ∙ sym a.value)

  -- an interface elsewhere changes nothing
  pub skip : (r k c : ℕ) (two : TwoLeast) → IsInterface n i r k c → (k ≡ l → ⊥) → IsTwoLeast n seen l i two → IsTwoLeast n seen l (i + 1) two
  skip r k c two its off is =
      record {
        most = is.most;
        order = is.order;
        least_is = is.least_is;
        next_is = is.next_is;
        below = split (λ s v. two.least ≤ v) is.below (λ s v has. absurd (away s v has));
        others = split (λ s v. s ≢ two.by → two.next ≤ v) is.others (λ s v has. absurd (away s v has));
      }
    where
      away : (s v : ℕ) → IsSeen n seen l i s v → ⊥
      away s v has = off (its_link n i r k c s l has.cost its has.its).1

  -- the least one's own router has less
  pub lower : (two : TwoLeast) (r m : ℕ) → IsTwoLeast n seen l i two → IsSeen n seen l i r m → r ≡ two.by → m < two.least →
      IsTwoLeast n seen l (i + 1) (record { least = m; by = two.by; next = two.next })
  lower two r m is has mine less =
      let its : IsSeen n seen l i two.by m = rw mine at has in
      record {
        most = is.most;
        order = omega (arith, less, is.order);
        least_is = inr (i, its);
        next_is = is.next_is;
        below = split (λ s v. m ≤ v) (λ j s v lt t. omega (arith, less, is.below j s v lt t)) (λ s v t. omega (arith, (same r s m v has t).1));
        others = split (λ s v. s ≢ two.by → two.next ≤ v) is.others (λ s v t not. absurd (not ((same r s m v has t).0 ∙ mine)));
      }

  -- nothing less is there
  pub keep : (two : TwoLeast) (r m : ℕ) → IsTwoLeast n seen l i two → IsSeen n seen l i r m → two.least ≤ m → (r ≢ two.by → two.next ≤ m) →
      IsTwoLeast n seen l (i + 1) two
  keep two r m is has more next =
      record {
        most = is.most;
        order = is.order;
        least_is = is.least_is;
        next_is = is.next_is;
        below = split (λ s v. two.least ≤ v) is.below (λ s v t. omega (arith, more, (same r s m v has t).1));
        others = split (λ s v. s ≢ two.by → two.next ≤ v) is.others
            (λ s v t not. let e = same r s m v has t in let le = next (λ b. not (e.0 ∙ b)) in omega (arith, le, e.1));
      }

  -- another router has less than the least
  pub new_least : (two : TwoLeast) (r m : ℕ) → IsTwoLeast n seen l i two → IsSeen n seen l i r m → r ≢ two.by → m < two.least →
      IsTwoLeast n seen l (i + 1) (record { least = m; by = r; next = two.least })
  new_least two r m is has other less =
      record {
        most = omega (arith, is.order, is.most);
        order = omega (arith, less);
        least_is = inr (i, has);
        next_is = next is.least_is;
        below = split (λ s v. m ≤ v) (λ j s v lt t. omega (arith, less, is.below j s v lt t)) (λ s v t. omega (arith, (same r s m v has t).1));
        others = split (λ s v. s ≢ r → two.least ≤ v) (λ j s v lt t not. is.below j s v lt t) (λ s v t not. absurd (not (same r s m v has t).0));
      }
    where
      next : (two.least ≡ 16) ⊎ ((j : ℕ) × IsSeen n seen l j two.by two.least) → (two.least ≡ 16) ⊎ ((j s : ℕ) × IsSeen n seen l j s two.least × (s ≢ r))
      next (inl e) = inl e
      next (inr h) = inr (h.0, two.by, h.1, λ e. other (sym e))

  -- another router has less than the other ones
  pub new_next : (two : TwoLeast) (r m : ℕ) → IsTwoLeast n seen l i two → IsSeen n seen l i r m → r ≢ two.by → two.least ≤ m → m < two.next →
      IsTwoLeast n seen l (i + 1) (record { least = two.least; by = two.by; next = m })
  new_next two r m is has other more less =
      record {
        most = omega (arith, less, is.most);
        order = more;
        least_is = is.least_is;
        next_is = inr (i, r, has, other);
        below = split (λ s v. two.least ≤ v) is.below (λ s v t. omega (arith, more, (same r s m v has t).1));
        others = split (λ s v. s ≢ two.by → m ≤ v) (λ j s v lt t not. omega (arith, less, is.others j s v lt t not)) (λ s v t not. omega (arith, (same r s m v has t).1));
      }

-- an element after a write is the new one, or an old one elsewhere
pub after_write : {A : Type 0} (xs : List A) (k l : ℕ) (y two d : A) → k < length xs → slice_get (slice_set xs k y) l ≡ Some two →
    ((l ≡ k) × (two ≡ y)) ⊎ ((l ≡ k → ⊥) × (slice_get xs l ≡ Some two))
after_write xs k l y two d lt e =
    let is : get_or (slice_set xs k y) l d ≡ two = get_or_from_slice_get (slice_set xs k y) l two d e in
    let in_range : l < length (slice_set xs k y) = slice_get_within (slice_set xs k y) l two e in
    elim (cases_eq l k) [
      | inl at ↦ inl (at, sym is ∙ get_or-set_at xs k l y d at lt)
      | inr off ↦
          let in_range' : l < length xs = grind (arith, common_steps, in_range) in
          inr (off, slice_get-get_or xs l d in_range' ∙ ap Some (sym (get_or-set_other xs k l y d off) ∙ is))
    ]

-- past the last interface
pub reached : (n : Network) (seen : ℕ → ℕ → ℕ → ℕ) (l i : ℕ) (two : TwoLeast) → length n.interfaces ≤ i → IsTwoLeast n seen l i two → IsTwoLeast n seen l (length n.interfaces) two
reached n seen l i two past is =
    record {
      most = is.most;
      order = is.order;
      least_is = is.least_is;
      next_is = is.next_is;
      below = λ j s v lt has. is.below j s v (omega (arith, lt, past)) has;
      others = λ j s v lt has. is.others j s v (omega (arith, lt, past)) has;
    }

-- one more interface that has 16 or more changes nothing on any link
pub take_none : (n : Network) (seen : ℕ → ℕ → ℕ → ℕ) (i r k m : ℕ) (links : List TwoLeast) → IsSeen n seen k i r m → 16 ≤ m →
    AreTwoLeastBefore n seen i links → AreTwoLeastBefore n seen (i + 1) links
take_none n seen i r k m links has big was l two e =
    let is = was l two e in
    elim (cases_eq l k) [
      | inl on ↦
          let has' : IsSeen n seen l i r m = rw on has in
          keep n seen l i two r m is has' (omega (arith, is.order, is.most, big)) (λ other. omega (arith, is.most, big))
      | inr off ↦ skip n seen l i r k has.cost two has.its (λ on. off (sym on)) is
    ]

-- and one that has less changes its own link alone
pub take_one : (n : Network) (seen : ℕ → ℕ → ℕ → ℕ) (i r k m : ℕ) (links : List TwoLeast) (d new : TwoLeast) → k < length links → IsSeen n seen k i r m →
    AreTwoLeastBefore n seen i links → IsTwoLeast n seen k (i + 1) new → AreTwoLeastBefore n seen (i + 1) (slice_set links k new)
take_one n seen i r k m links d new lt has was is l two e =
    elim (after_write links k l new two d lt e) [
      | inl h ↦ rw h.1 (rw h.0 is)
      | inr h ↦ skip n seen l i r k has.cost two has.its (λ on. h.0 (sym on)) (was l two h.1)
    ]
