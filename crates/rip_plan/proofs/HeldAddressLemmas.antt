-- The addresses of interfaces in one list, in which order they stand, and what is found there.
use Rattle.std.proofs.Common.{◌≡◌, ℕ, zero, suc, ◌+◌, inl, inr, List, [], ◌∷◌, ◌++◌, true, Some, None, refl, sym, ◌∙◌, ap, arith, ◌<◌, ◌⊎◌}
use Rattle.std.proofs.lemmas.Bool.{cases_Bool, eq-eqb}
use Rattle.std.specs.Prelude.{slice_get}
use Rattle.std.proofs.lemmas.Option.{none-some, same_Some}
use Rattle.rip_plan.specs.declared.addresses.Held.{Held}
use Rattle.rip_plan.specs.declared.parts.Interface.{Interface}
use Rattle.rip_plan.specs.Addresses.{held_by, held_from, holder_at, is_at}
use Rattle.rip_plan.specs.Network.{Network, addresses_of}
use Rattle.rip_plan.specs.Relations.{HasAddress, HasAddresses}
use Rattle.rip_plan.proofs.FlatLemmas.{IsIn, count_ahead, flat, in_flat, in_order, is_in}
use Rattle.rip_plan.proofs.ItemLemmas.{get_seen, see_got}
use Rattle.rip_plan.proofs.BelowLemmas.{contains_at, at_contains}

-- the interfaces, each with its further addresses
abbrev with_further : List Interface → List (List ℕ) → List (Interface × List ℕ)
with_further [] also = []
with_further (i ∷ is) [] = []
with_further (i ∷ is) (further ∷ also) = (i, further) ∷ with_further is also

abbrev held_of : ℕ → Interface × List ℕ → List Held
held_of n p = held_by n p.0 p.1

held_flat : (n : ℕ) (is : List Interface) (also : List (List ℕ)) → held_from n is also ≡ flat held_of n (with_further is also)
held_flat n [] also = refl
held_flat n (i ∷ is) [] = refl
held_flat n (i ∷ is) (further ∷ also) = ap (λ (l : List Held). held_by n i further ++ l) (held_flat (n + 1) is also)

pair_at : (is : List Interface) (also : List (List ℕ)) (i : ℕ) (p : Interface × List ℕ) → slice_get (with_further is also) i ≡ Some p → (slice_get is i ≡ Some p.0) × (slice_get also i ≡ Some p.1)
pair_at (x ∷ is) (further ∷ also) zero p h = grind arith
pair_at (x ∷ is) (further ∷ also) (suc i) p h = pair_at is also i p h
pair_at is also i p h = grind arith

at_pair : (is : List Interface) (also : List (List ℕ)) (i : ℕ) (x : Interface) (further : List ℕ) → slice_get is i ≡ Some x → slice_get also i ≡ Some further
    → slice_get (with_further is also) i ≡ Some (x, further)
at_pair (y ∷ is) (front ∷ also) zero x further h its = grind arith
at_pair (y ∷ is) (front ∷ also) (suc i) x further h its = at_pair is also i x further h its
at_pair is also i x further h its = grind arith

-- address k of the list is one of an interface
pub record HeldIn (is : List Interface) (also : List (List ℕ)) (k : ℕ) (h : Held) : Type 0 where
  pub u : IsIn held_of 0 (with_further is also) k h
  pub number : u.i ≡ h.interface
  pub listed : slice_get is h.interface ≡ Some u.x.0
  pub its : slice_get also h.interface ≡ Some u.x.1
  pub link : u.x.0.link ≡ h.link
  pub address : slice_get (u.x.0.address ∷ u.x.1) u.j ≡ Some h.address

pub held_in : (is : List Interface) (also : List (List ℕ)) (k : ℕ) (h : Held) → slice_get (held_from 0 is also) k ≡ Some h → HeldIn is also k h
held_in is also k h e =
    let u = is_in held_of 0 (with_further is also) (held_from 0 is also) (held_flat 0 is also) k h e in
    let (listed, its) = pair_at is also u.i u.x u.at in
    let (a, at, same) = get_seen {B = Held} (λ a. record { interface = 0 + u.i; link = u.x.0.link; address = a }) (u.x.0.address ∷ u.x.1) u.j h u.of in
    let number : u.i ≡ h.interface = omega (arith, ap (λ (g : Held). g.interface) same) in
    record {
      u = u;
      number = number;
      listed = ap (slice_get is) (sym number) ∙ listed;
      its = ap (slice_get also) (sym number) ∙ its;
      link = ap (λ (g : Held). g.link) same;
      address = at ∙ ap (λ (g : Held). Some g.address) same;
    }

-- ---- the first interface with an address

same_held : (h : Held) (l a : ℕ) → is_at l a h ≡ true → h ≡ record { interface = h.interface; link = l; address = a }
same_held h l a e = grind arith

holder_found : (l a i : ℕ) (hs : List Held) → holder_at l a hs ≡ Some i → (k : ℕ) × (slice_get hs k ≡ Some (record { interface = i; link = l; address = a }))
holder_found l a i [] e = absurd (none-some i e)
holder_found l a i (h ∷ hs) e =
    elim (cases_Bool (is_at l a h)) [
      | inl t ↦ (zero, ap (λ (g : Held). Some g) (same_held h l a t) ∙ ap (λ (m : ℕ). Some (record { interface = m; link = l; address = a })) (same_Some h.interface i (rw t at e)))
      | inr t ↦ let (k, at) = holder_found l a i hs (rw t at e) in (suc k, at)
    ]

holder_there : (l a i k : ℕ) (hs : List Held) → slice_get hs k ≡ Some (record { interface = i; link = l; address = a }) → holder_at l a hs ≡ None → ⊥
holder_there l a i k [] at e = absurd (none-some _ at)
holder_there l a i zero (h ∷ hs) at e = grind (arith, eq-eqb l l, eq-eqb a a)
holder_there l a i (suc k) (h ∷ hs) at e = grind (arith, holder_there l a i k hs at)

-- ---- of a network

addresses_at : (n : Network) (k : ℕ) (h : Held) (c : HeldIn n.interfaces n.also k h) → HasAddresses n h.interface h.link (c.u.x.0.address ∷ c.u.x.1)
addresses_at n k h c = record { interface = c.u.x.0; listed = c.listed; link = c.link; also = c.u.x.1; further = c.its; all = refl }

pub held_address : (n : Network) (i l a k : ℕ) → slice_get (addresses_of n) k ≡ Some (record { interface = i; link = l; address = a }) → HasAddress n i l a
held_address n i l a k h =
    let c = held_in n.interfaces n.also k (record { interface = i; link = l; address = a }) h in
    let all = c.u.x.0.address ∷ c.u.x.1 in
    (all, addresses_at n k (record { interface = i; link = l; address = a }) c, contains_at all c.u.j a c.address)

-- the addresses of one interface stand one after another, from a number on
abbrev pub first_held : Network → ℕ → ℕ
first_held n i = count_ahead held_of 0 (with_further n.interfaces n.also) i

pub held_at : (n : Network) (i l : ℕ) (all : List ℕ) → HasAddresses n i l all → (j a : ℕ) → slice_get all j ≡ Some a
    → slice_get (addresses_of n) (first_held n i + j) ≡ Some (record { interface = i; link = l; address = a })
held_at n i l all has j a at =
    let its = ap (λ (xs : List ℕ). slice_get xs j) (sym has.all) ∙ at in
    let here = see_got {B = Held} (λ b. record { interface = 0 + i; link = has.interface.link; address = b }) (has.interface.address ∷ has.also) j a its in
    let pair = at_pair n.interfaces n.also i has.interface has.also has.listed has.further in
    let number : 0 + i ≡ i = omega arith in
    in_flat held_of 0 (with_further n.interfaces n.also) (addresses_of n) (held_flat 0 n.interfaces n.also) i j (has.interface, has.also) _ pair here (first_held n i + j) refl
    ∙ ap (λ (m : ℕ). Some (record { interface = m; link = has.interface.link; address = a })) number
    ∙ ap (λ (m : ℕ). Some (record { interface = i; link = m; address = a })) has.link

pub address_held : (n : Network) (i l a : ℕ) → HasAddress n i l a → (k : ℕ) × (slice_get (addresses_of n) k ≡ Some (record { interface = i; link = l; address = a }))
address_held n i l a (all, has, holds) = let (j, at) = at_contains all a holds in (first_held n i + j, held_at n i l all has j a at)

-- both are addresses of one interface, the first before the other
pub record OfOne (n : Network) (g h : Held) : Type 0 where
  pub one : g.interface ≡ h.interface
  pub addresses : List ℕ
  pub has : HasAddresses n h.interface h.link addresses
  pub j : ℕ
  pub k : ℕ
  pub less : j < k
  pub before : slice_get addresses j ≡ Some g.address
  pub after : slice_get addresses k ≡ Some h.address

pub held_order : (n : Network) (k m : ℕ) (g h : Held) → k < m → slice_get (addresses_of n) k ≡ Some g → slice_get (addresses_of n) m ≡ Some h → (g.interface < h.interface) ⊎ OfOne n g h
held_order n k m g h less at there =
    let items = with_further n.interfaces n.also in
    let a = held_in n.interfaces n.also k g at in
    let b = held_in n.interfaces n.also m h there in
    elim (in_order held_of 0 items k m g h a.u b.u less) [
      | inl ahead ↦ inl (omega (arith, a.number, b.number))
      | inr (same, before) ↦
          let item : a.u.x ≡ b.u.x = same_Some a.u.x b.u.x (sym a.u.at ∙ ap (slice_get items) same ∙ b.u.at) in
          inr (record {
            one = omega (arith, a.number, b.number);
            addresses = b.u.x.0.address ∷ b.u.x.1;
            has = addresses_at n m h b;
            j = a.u.j;
            k = b.u.j;
            less = before;
            before = ap (λ (p : Interface × List ℕ). slice_get (p.0.address ∷ p.1) a.u.j) (sym item) ∙ a.address;
            after = b.address;
          })
    ]

pub holder_gives : (n : Network) (i l a : ℕ) → holder_at l a (addresses_of n) ≡ Some i → HasAddress n i l a
holder_gives n i l a h = let (k, at) = holder_found l a i (addresses_of n) h in held_address n i l a k at

pub holder_none : (n : Network) (i l a : ℕ) → HasAddress n i l a → holder_at l a (addresses_of n) ≡ None → ⊥
holder_none n i l a has e = let (k, at) = address_held n i l a has in holder_there l a i k (addresses_of n) at e
