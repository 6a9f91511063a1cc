-- Where the items of lists and the further addresses of interfaces stand, in which order, and how many there are.
use Rattle.std.proofs.Common.{◌≡◌, ℕ, zero, suc, ◌+◌, ◌<◌, ◌≤◌, ◌⊎◌, inl, inr, List, [], ◌∷◌, ◌++◌, length, map, Some, refl, sym, ap, ◌∙◌, arith, length-append}
use Rattle.std.specs.Prelude.{slice_get, codes as codes_of}
use Rattle.std.proofs.lemmas.Option.{none-some, same_Some, slice_get_within}
use Rattle.std.proofs.lemmas.List.{length-map}
use Rattle.toml.specs.Data.{Data, get}
use Rattle.rip_plan.specs.declared.error.At.{At}
use Rattle.rip_plan.specs.declared.error.At.TheVariants.{LinkOnly, LinkPrefix, RouterInterface, RouterOwn}
use Rattle.rip_plan.specs.PlanOf.{items_in, items_under}
use Rattle.rip_plan.specs.PlanFaults.{nth, IsItem, spots_of, spots_under, place_spots, interface_spots, listed_spots, position, Before, also_spots, also_spots_from, also_spots_of}
use Rattle.rip_plan.proofs.ItemLemmas.{get_split, get_left, get_past, get_seen, get_some, see_got}
use Rattle.rip_plan.proofs.FlatLemmas.{ahead_front, flat, in_flat, in_order, is_in, same_ahead, same_length}
use Rattle.rip_plan.proofs.FindingLemmas.{before_not}

pub nth_from : {A : Type 0} (xs : List A) (i : ℕ) (x : A) → nth xs i ≡ Some x → (1 ≤ i) × (i ≤ length xs)
nth_from xs zero x h = absurd (none-some x h)
nth_from xs (suc n) x h = (omega arith, omega (arith, slice_get_within xs n x h))

pub item_from : (key : List ℕ) (ds : List Data) (i j : ℕ) (x : Data) → IsItem key ds i j x → (1 ≤ i) × (i ≤ length ds) × (1 ≤ j)
item_from key ds i j x (d, is, item) = let a = nth_from ds i d is in let b = nth_from (items_in (get key d)) j x item in (a.0, a.1, b.0)

pub get_front : {A : Type 0} (xs : List A) (a : A) (ys : List A) → slice_get (xs ++ a ∷ ys) (length xs) ≡ Some a
get_front xs a ys = get_past xs (a ∷ ys) 0 (length xs) (omega arith)

-- the spot of an item has its number
spot_here : (at : ℕ → At) (j : ℕ) (ds : List Data) (k : ℕ) (x : Data) → slice_get ds k ≡ Some x → slice_get (spots_of at j ds) k ≡ Some (at (j + k))
spot_here at j [] k x h = absurd (none-some x h)
spot_here at j (d ∷ ds) zero x h = ap (λ (n : ℕ). Some (at n)) (omega arith)
spot_here at j (d ∷ ds) (suc k) x h = spot_here at (j + 1) ds k x h ∙ ap (λ (n : ℕ). Some (at n)) (omega arith)

pub count_of : (at : ℕ → At) (j : ℕ) (ds : List Data) → length (spots_of at j ds) ≡ length ds
count_of at j [] = refl
count_of at j (d ∷ ds) = let more : length (spots_of at (j + 1) ds) ≡ length ds = count_of at (j + 1) ds in omega arith

spot_at : (at : ℕ → At) (j : ℕ) (ds : List Data) (k : ℕ) (a : At) → slice_get (spots_of at j ds) k ≡ Some a → a ≡ at (j + k)
spot_at at j ds k a h =
    let (x, is) = get_some ds k (omega (arith, slice_get_within (spots_of at j ds) k a h, count_of at j ds)) in
    same_Some a (at (j + k)) (sym h ∙ spot_here at j ds k x is)

abbrev pub with_number : ℕ → Data → ℕ × Data
with_number n d = (n, d)

-- the lists of items, and those of spots, one after another
abbrev pub numbered_items : List ℕ → ℕ → Data → List (ℕ × Data)
numbered_items key n d = map (with_number n) (items_in (get key d))

pub items_flat : (key : List ℕ) (n : ℕ) (ds : List Data) → items_under key n ds ≡ flat (numbered_items key) n ds
items_flat key n ds = grind arith

abbrev spots_in : List ℕ → (ℕ → ℕ → At) → ℕ → Data → List At
spots_in key at i d = spots_of (at i) 1 (items_in (get key d))

spots_flat : (key : List ℕ) (at : ℕ → ℕ → At) (i : ℕ) (ds : List Data) → spots_under key at i ds ≡ flat (spots_in key at) i ds
spots_flat key at i ds = grind arith

same_counts : (key : List ℕ) (at : ℕ → ℕ → At) (i n : ℕ) (d : Data) → length (spots_in key at i d) ≡ length (numbered_items key n d)
same_counts key at i n d = count_of (at i) 1 (items_in (get key d)) ∙ sym (length-map (items_in (get key d)) (with_number n))

pub spots_count : (key : List ℕ) (at : ℕ → ℕ → At) (i n : ℕ) (ds : List Data) → length (spots_under key at i ds) ≡ length (items_under key n ds)
spots_count key at i n ds = ap length (spots_flat key at i ds) ∙ same_length (spots_in key at) (numbered_items key) (same_counts key at) i n ds ∙ sym (ap length (items_flat key n ds))

-- an item of the lists at a key stands in a table, and its spot has the same number
pub record IsUnder (key : List ℕ) (at : ℕ → ℕ → At) (i n : ℕ) (ds : List Data) (k m : ℕ) (x : Data) : Type 0 where
  pub t : ℕ
  pub j : ℕ
  pub number : m ≡ n + t
  pub item : IsItem key ds (suc t) (suc j) x
  pub spot : slice_get (spots_under key at i ds) k ≡ Some (at (i + t) (suc j))

pub under_item : (key : List ℕ) (at : ℕ → ℕ → At) (i n : ℕ) (ds : List Data) (k m : ℕ) (x : Data) → slice_get (items_under key n ds) k ≡ Some (m, x) → IsUnder key at i n ds k m x
under_item key at i n ds k m x h =
    let u = is_in (numbered_items key) n ds (items_under key n ds) (items_flat key n ds) k (m, x) h in
    let (y, is, same) = get_seen (with_number (n + u.i)) (items_in (get key u.x)) u.j (m, x) u.of in
    let spot = spot_here (at (i + u.i)) 1 (items_in (get key u.x)) u.j y is in
    let counts = same_ahead (spots_in key at) (numbered_items key) (same_counts key at) i n ds u.i in
    record {
      t = u.i;
      j = u.j;
      number = ap (λ (p : ℕ × Data). p.0) (sym same);
      item = (u.x, u.at, is ∙ ap (λ (p : ℕ × Data). Some p.1) same);
      spot = in_flat (spots_in key at) i ds (spots_under key at i ds) (spots_flat key at i ds) u.i u.j u.x (at (i + u.i) (1 + u.j)) u.at spot k (omega (arith, u.number, counts))
          ∙ ap (λ (q : ℕ). Some (at (i + u.i) q)) (omega arith);
    }

-- a spot is that of an item
pub record IsSpot (key : List ℕ) (at : ℕ → ℕ → At) (i : ℕ) (ds : List Data) (a : At) : Type 0 where
  pub n : ℕ
  pub j : ℕ
  pub is : a ≡ at (i + n) (suc j)
  pub x : Data
  pub item : IsItem key ds (suc n) (suc j) x

pub spot_under : (key : List ℕ) (at : ℕ → ℕ → At) (i : ℕ) (ds : List Data) (k : ℕ) (a : At) → slice_get (spots_under key at i ds) k ≡ Some a → IsSpot key at i ds a
spot_under key at i ds k a h =
    let ((m, x), listed) = get_some (items_under key 0 ds) k (omega (arith, slice_get_within (spots_under key at i ds) k a h, spots_count key at i 0 ds)) in
    let u = under_item key at i 0 ds k m x listed in
    record { n = u.t; j = u.j; is = same_Some a (at (i + u.t) (suc u.j)) (sym h ∙ u.spot); x = x; item = u.item }

-- in one table before the other, or in one and the same before it
abbrev Sooner : ℕ → ℕ → ℕ → ℕ → Type 0
Sooner i j n m = (i < n) ⊎ ((i ≡ n) × (j < m))

abbrev Ordered : (ℕ → ℕ → At) → Type 0
Ordered at = (i j n m : ℕ) → Sooner i j n m → Before (position (at i j)) (position (at n m))

abbrev Ahead : At → At → Type 0
Ahead a b = Before (position a) (position b)

under_ahead : (key : List ℕ) (at : ℕ → ℕ → At) → Ordered at → (i : ℕ) (ds : List Data) (k m : ℕ) (a b : At) → k < m → slice_get (spots_under key at i ds) k ≡ Some a
    → slice_get (spots_under key at i ds) m ≡ Some b → Ahead a b
under_ahead key at order i ds k m a b less h g =
    let u = is_in (spots_in key at) i ds (spots_under key at i ds) (spots_flat key at i ds) k a h in
    let v = is_in (spots_in key at) i ds (spots_under key at i ds) (spots_flat key at i ds) m b g in
    rw (spot_at (at (i + u.i)) 1 (items_in (get key u.x)) u.j a u.of, spot_at (at (i + v.i)) 1 (items_in (get key v.x)) v.j b v.of)
    (order (i + u.i) (1 + u.j) (i + v.i) (1 + v.j) (elim (in_order (spots_in key at) i ds k m a b u v less) [ inl before ↦ inl (omega arith) | inr (same, before) ↦ inr (omega arith, omega arith) ]))

ordered : (at : ℕ → ℕ → At) (part group : ℕ) → ((i j : ℕ) → position (at i j) ≡ part ∷ i ∷ group ∷ j ∷ []) → Ordered at
ordered at part group h = grind arith

pub interface_ahead : (routers : List Data) (k m : ℕ) (a b : At) → k < m → slice_get (interface_spots routers) k ≡ Some a → slice_get (interface_spots routers) m ≡ Some b → Ahead a b
interface_ahead routers k m a b less h g = under_ahead (codes_of "interface") RouterInterface (ordered RouterInterface 2 1 (λ i j. refl)) 1 routers k m a b less h g

pub place_ahead : (links routers : List Data) (k m : ℕ) (a b : At) → k < m → slice_get (place_spots links routers) k ≡ Some a → slice_get (place_spots links routers) m ≡ Some b → Ahead a b
place_ahead links routers k m a b less h g =
    let here = spots_under (codes_of "prefixes") LinkPrefix 1 links in
    let later = spots_under (codes_of "own") RouterOwn 1 routers in
    elim (get_split here later k a h) [
      | inl (at, within) ↦
          elim (get_split here later m b g) [
            | inl f ↦ under_ahead (codes_of "prefixes") LinkPrefix (ordered LinkPrefix 1 1 (λ i j. refl)) 1 links k m a b less at f.0
            | inr f ↦ rw ((spot_under (codes_of "prefixes") LinkPrefix 1 links k a at).is, (spot_under (codes_of "own") RouterOwn 1 routers f.0 b f.2).is) (inl (omega arith))
          ]
      | inr (i, past, at) ↦
          elim (get_split here later m b g) [
            | inl f ↦ absurd (omega (arith, f.1))
            | inr (j, beyond, there) ↦ under_ahead (codes_of "own") RouterOwn (ordered RouterOwn 2 2 (λ n l. refl)) 1 routers i j a b (omega arith) at there
          ]
    ]

-- each spot has one number
spot_once : (spots : List At) → ((k m : ℕ) (a b : At) → k < m → slice_get spots k ≡ Some a → slice_get spots m ≡ Some b → Ahead a b) → (k m : ℕ) (a : At) → slice_get spots k ≡ Some a
    → slice_get spots m ≡ Some a → k ≡ m
spot_once spots ahead k m a h g = grind (arith, ahead k m a a, ahead m k a a, before_not (position a))

pub place_once : (links routers : List Data) (k m : ℕ) (a : At) → slice_get (place_spots links routers) k ≡ Some a → slice_get (place_spots links routers) m ≡ Some a → k ≡ m
place_once links routers k m a h g = spot_once (place_spots links routers) (place_ahead links routers) k m a h g

pub interface_once : (routers : List Data) (k m : ℕ) (a : At) → slice_get (interface_spots routers) k ≡ Some a → slice_get (interface_spots routers) m ≡ Some a → k ≡ m
interface_once routers k m a h g = spot_once (interface_spots routers) (interface_ahead routers) k m a h g

pub listed_once : (links : List Data) (k m : ℕ) (a : At) → slice_get (listed_spots links) k ≡ Some a → slice_get (listed_spots links) m ≡ Some a → k ≡ m
listed_once links k m a h g = spot_once (listed_spots links) (under_ahead (codes_of "only") LinkOnly (ordered LinkOnly 1 2 (λ i j. refl)) 1 links) k m a h g

-- ---- the item of a spot

pub item_of : (key : List ℕ) (ds : List Data) (n j : ℕ) (x : Data) → IsItem key ds (suc n) (suc j) x → (i m : ℕ) → i ≡ 1 + n → m ≡ suc j → IsItem key ds i m x
item_of key ds n j x h i m e f = let one : i ≡ suc n = omega arith in rw (one, f) h

pub place_spot : (links routers : List Data) (k : ℕ) (a : At) → slice_get (place_spots links routers) k ≡ Some a
    → IsSpot (codes_of "prefixes") LinkPrefix 1 links a ⊎ IsSpot (codes_of "own") RouterOwn 1 routers a
place_spot links routers k a h = grind (arith, get_split, spot_under)

pub interface_spot : (routers : List Data) (k : ℕ) (a : At) → slice_get (interface_spots routers) k ≡ Some a → IsSpot (codes_of "interface") RouterInterface 1 routers a
interface_spot routers k a h = spot_under (codes_of "interface") RouterInterface 1 routers k a h

pub prefix_item : (links routers : List Data) (k i j : ℕ) → slice_get (place_spots links routers) k ≡ Some (LinkPrefix i j) → (x : Data) × IsItem (codes_of "prefixes") links i j x
prefix_item links routers k i j h =
    elim (place_spot links routers k (LinkPrefix i j) h) [
      | inl s ↦ let same : LinkPrefix i j ≡ LinkPrefix (1 + s.n) (suc s.j) = s.is in (s.x, item_of (codes_of "prefixes") links s.n s.j s.x s.item i j (cc) (cc))
      | inr s ↦ let same : LinkPrefix i j ≡ RouterOwn (1 + s.n) (suc s.j) = s.is in absurd cc
    ]

pub own_item : (links routers : List Data) (k i j : ℕ) → slice_get (place_spots links routers) k ≡ Some (RouterOwn i j) → (x : Data) × IsItem (codes_of "own") routers i j x
own_item links routers k i j h =
    elim (place_spot links routers k (RouterOwn i j) h) [
      | inl s ↦ let same : RouterOwn i j ≡ LinkPrefix (1 + s.n) (suc s.j) = s.is in absurd cc
      | inr s ↦ let same : RouterOwn i j ≡ RouterOwn (1 + s.n) (suc s.j) = s.is in (s.x, item_of (codes_of "own") routers s.n s.j s.x s.item i j (cc) (cc))
    ]

pub listed_item : (links : List Data) (k i j : ℕ) → slice_get (listed_spots links) k ≡ Some (LinkOnly i j) → (x : Data) × IsItem (codes_of "only") links i j x
listed_item links k i j h =
    let s = spot_under (codes_of "only") LinkOnly 1 links k (LinkOnly i j) h in
    (s.x, item_of (codes_of "only") links s.n s.j s.x s.item i j (cc) (cc))

pub interface_item : (routers : List Data) (k i j : ℕ) → slice_get (interface_spots routers) k ≡ Some (RouterInterface i j) → (x : Data) × IsItem (codes_of "interface") routers i j x
interface_item routers k i j h =
    let s = spot_under (codes_of "interface") RouterInterface 1 routers k (RouterInterface i j) h in
    (s.x, item_of (codes_of "interface") routers s.n s.j s.x s.item i j (cc) (cc))

-- the spot of an item has the number of the items before it
pub under_here : (key : List ℕ) (at : ℕ → ℕ → At) (i : ℕ) (done : List Data) (d : Data) (rest : List Data) (front : List Data) (x : Data) (back : List Data) → items_in (get key d) ≡ front ++ x ∷ back
    → (n : ℕ) → n ≡ length (spots_under key at i done) + length front → slice_get (spots_under key at i (done ++ d ∷ rest)) n ≡ Some (at (i + length done) (1 + length front))
under_here key at i done d rest front x back e n h =
    let spot = spot_here (at (i + length done)) 1 (front ++ x ∷ back) (length front) x (get_front front x back) in
    in_flat (spots_in key at) i (done ++ d ∷ rest) (spots_under key at i (done ++ d ∷ rest)) (spots_flat key at i (done ++ d ∷ rest)) (length done) (length front) d
    (at (i + length done) (1 + length front)) (get_front done d rest) (rw e spot) n (omega (arith, ap length (spots_flat key at i done), ahead_front (spots_in key at) i done d rest))

pub prefix_here : (routers done : List Data) (d : Data) (rest front : List Data) (x : Data) (back : List Data) → items_in (get (codes_of "prefixes") d) ≡ front ++ x ∷ back
    → (n : ℕ) → n ≡ length (spots_under (codes_of "prefixes") LinkPrefix 1 done) + length front
    → slice_get (place_spots (done ++ d ∷ rest) routers) n ≡ Some (LinkPrefix (1 + length done) (1 + length front))
prefix_here routers done d rest front x back e n h =
    get_left (spots_under (codes_of "prefixes") LinkPrefix 1 (done ++ d ∷ rest)) (spots_under (codes_of "own") RouterOwn 1 routers) n _
    (under_here (codes_of "prefixes") LinkPrefix 1 done d rest front x back e n h)

pub own_here : (links done : List Data) (d : Data) (rest front : List Data) (x : Data) (back : List Data) → items_in (get (codes_of "own") d) ≡ front ++ x ∷ back
    → (n : ℕ) → n ≡ length (place_spots links done) + length front → slice_get (place_spots links (done ++ d ∷ rest)) n ≡ Some (RouterOwn (1 + length done) (1 + length front))
own_here links done d rest front x back e n h =
    let on_links = spots_under (codes_of "prefixes") LinkPrefix 1 links in
    let own = spots_under (codes_of "own") RouterOwn 1 done in
    get_past on_links (spots_under (codes_of "own") RouterOwn 1 (done ++ d ∷ rest)) (length own + length front) n (omega (arith, h, length-append on_links own))
    ∙ under_here (codes_of "own") RouterOwn 1 done d rest front x back e (length own + length front) refl

pub nth_here : {A : Type 0} (done : List A) (x : A) (rest : List A) (n : ℕ) → n ≡ 1 + length done → nth (done ++ x ∷ rest) n ≡ Some x
nth_here done x rest n e = let same : n ≡ suc (length done) = omega arith in rw same (get_front done x rest)

-- ---- a number has one item

pub item_once : (key : List ℕ) (ds : List Data) (i j : ℕ) (x y : Data) → IsItem key ds i j x → IsItem key ds i j y → x ≡ y
item_once key ds i j x y (d, is, it) (e, js, jt) = grind arith

-- ---- the further addresses of interfaces

abbrev pub also_items : Data → List Data
also_items d = items_in (get (codes_of "also") d)

-- how many further addresses the interfaces of these tables have
abbrev pub also_in : List Data → ℕ
also_in [] = 0
also_in (d ∷ ds) = length (also_items d) + also_in ds

-- the same of the routers of these tables
abbrev pub also_under : List Data → ℕ
also_under [] = 0
also_under (d ∷ ds) = also_in (items_in (get (codes_of "interface") d)) + also_under ds

-- ---- each further address stands at an interface

abbrev spots_at : (ℕ → At) → ℕ → Data → List At
spots_at at j d = map (λ (y : Data). at j) (also_items d)

of_flat : (at : ℕ → At) (j : ℕ) (ds : List Data) → also_spots_of at j ds ≡ flat (spots_at at) j ds
of_flat at j ds = grind arith

abbrev spots_of_router : ℕ → Data → List At
spots_of_router r d = also_spots_of (RouterInterface r) 1 (items_in (get (codes_of "interface") d))

further_flat : (r : ℕ) (ds : List Data) → also_spots_from r ds ≡ flat spots_of_router r ds
further_flat r ds = grind arith

of_spot : (at : ℕ → At) (j : ℕ) (ds : List Data) (k : ℕ) (a : At) → slice_get (also_spots_of at j ds) k ≡ Some a → (m : ℕ) × (x : Data) × (a ≡ at (j + m)) × (slice_get ds m ≡ Some x)
of_spot at j ds k a h =
    let u = is_in (spots_at at) j ds (also_spots_of at j ds) (of_flat at j ds) k a h in
    let (y, is, same) = get_seen (λ (y : Data). at (j + u.i)) (also_items u.x) u.j a u.of in
    (u.i, u.x, sym same, u.at)

pub also_spot : (r : ℕ) (ds : List Data) (k : ℕ) (a : At) → slice_get (also_spots_from r ds) k ≡ Some a → IsSpot (codes_of "interface") RouterInterface r ds a
also_spot r ds k a h =
    let u = is_in spots_of_router r ds (also_spots_from r ds) (further_flat r ds) k a h in
    let (m, x, is, there) = of_spot (RouterInterface (r + u.i)) 1 (items_in (get (codes_of "interface") u.x)) u.j a u.of in
    record { n = u.i; j = m; is = is ∙ ap (RouterInterface (r + u.i)) (omega arith); x = x; item = (u.x, u.at, there) }

pub also_item : (routers : List Data) (k i j : ℕ) → slice_get (also_spots routers) k ≡ Some (RouterInterface i j) → (x : Data) × IsItem (codes_of "interface") routers i j x
also_item routers k i j h =
    let s = also_spot 1 routers k (RouterInterface i j) h in
    (s.x, item_of (codes_of "interface") routers s.n s.j s.x s.item i j (cc) (cc))

-- ---- how many further addresses there are

of_count : (at : ℕ → At) (j : ℕ) (ds : List Data) → length (also_spots_of at j ds) ≡ also_in ds
of_count at j [] = refl
of_count at j (d ∷ ds) =
    omega (arith, of_count at (j + 1) ds, length-append (map (λ (y : Data). at j) (also_items d)) (also_spots_of at (j + 1) ds), length-map (also_items d) (λ (y : Data). at j))

pub also_count : (r : ℕ) (ds : List Data) → length (also_spots_from r ds) ≡ also_under ds
also_count r [] = refl
also_count r (d ∷ ds) =
    let here = also_spots_of (RouterInterface r) 1 (items_in (get (codes_of "interface") d)) in
    omega (arith, also_count (r + 1) ds, length-append here (also_spots_from (r + 1) ds), of_count (RouterInterface r) 1 (items_in (get (codes_of "interface") d)))

-- ---- the further addresses of an interface stand after those before

of_here : (at : ℕ → At) (j : ℕ) (front : List Data) (x : Data) (back : List Data) (m : ℕ) → m < length (also_items x) → (n : ℕ) → n ≡ also_in front + m
    → slice_get (also_spots_of at j (front ++ x ∷ back)) n ≡ Some (at (j + length front))
of_here at j front x back m less n e =
    let (y, is) = get_some (also_items x) m less in
    let spot = see_got (λ (z : Data). at (j + length front)) (also_items x) m y is in
    in_flat (spots_at at) j (front ++ x ∷ back) (also_spots_of at j (front ++ x ∷ back)) (of_flat at j (front ++ x ∷ back)) (length front) m x (at (j + length front)) (get_front front x back)
    spot n (omega (arith, e, ahead_front (spots_at at) j front x back, ap length (of_flat at j front), of_count at j front))

pub also_here : (r : ℕ) (done : List Data) (d : Data) (rest front : List Data) (x : Data) (back : List Data) → items_in (get (codes_of "interface") d) ≡ front ++ x ∷ back → (m : ℕ)
    → m < length (also_items x)
    → (n : ℕ) → n ≡ also_under done + (also_in front + m) → slice_get (also_spots_from r (done ++ d ∷ rest)) n ≡ Some (RouterInterface (r + length done) (1 + length front))
also_here r done d rest front x back e m less n h =
    let spot = of_here (RouterInterface (r + length done)) 1 front x back m less (also_in front + m) refl in
    in_flat spots_of_router r (done ++ d ∷ rest) (also_spots_from r (done ++ d ∷ rest)) (further_flat r (done ++ d ∷ rest)) (length done) (also_in front + m) d
    (RouterInterface (r + length done) (1 + length front)) (get_front done d rest) (rw e spot) n
    (omega (arith, h, ahead_front spots_of_router r done d rest, ap length (further_flat r done), also_count r done))

-- ---- and none of them stands further on

of_within : (at : ℕ → At) → ((n m : ℕ) → at n ≡ at m → n ≡ m) → (j : ℕ) (front : List Data) (x : Data) (back : List Data) (k : ℕ)
    → slice_get (also_spots_of at j (front ++ x ∷ back)) k ≡ Some (at (j + length front)) → k < also_in front + length (also_items x)
of_within at one j front x back k h =
    let all = front ++ x ∷ back in
    let u = is_in (spots_at at) j all (also_spots_of at j all) (of_flat at j all) k (at (j + length front)) h in
    let (y, is, same) = get_seen (λ (z : Data). at (j + u.i)) (also_items u.x) u.j (at (j + length front)) u.of in
    let index : u.i ≡ length front = omega (arith, one (j + u.i) (j + length front) same) in
    let within = slice_get_within (also_items u.x) u.j y is in
    grind (arith, u.number, get_front front x back, ahead_front (spots_at at) j front x back, of_flat at j front, of_count at j front)

pub also_within : (r : ℕ) (done : List Data) (d : Data) (rest front : List Data) (x : Data) (back : List Data) → items_in (get (codes_of "interface") d) ≡ front ++ x ∷ back → (k : ℕ)
    → slice_get (also_spots_from r (done ++ d ∷ rest)) k ≡ Some (RouterInterface (r + length done) (1 + length front)) → k < also_under done + (also_in front + length (also_items x))
also_within r done d rest front x back e k h =
    let all = done ++ d ∷ rest in
    let a = RouterInterface (r + length done) (1 + length front) in
    let u = is_in spots_of_router r all (also_spots_from r all) (further_flat r all) k a h in
    let (m, y, is, there) = of_spot (RouterInterface (r + u.i)) 1 (items_in (get (codes_of "interface") u.x)) u.j a u.of in
    let number : r + length done ≡ r + u.i = cc in
    let index : u.i ≡ length done = omega arith in
    let item : u.x ≡ d = same_Some u.x d (sym u.at ∙ ap (slice_get all) index ∙ get_front done d rest) in
    let at : slice_get (also_spots_of (RouterInterface (r + u.i)) 1 (front ++ x ∷ back)) u.j ≡ Some (RouterInterface (r + u.i) (1 + length front)) =
    ap (λ (l : List Data). slice_get (also_spots_of (RouterInterface (r + u.i)) 1 l) u.j) (sym (ap (λ (z : Data). items_in (get (codes_of "interface") z)) item ∙ e)) ∙ u.of
    ∙ ap (λ (q : ℕ). Some (RouterInterface q (1 + length front))) number in
    let within = of_within (RouterInterface (r + u.i)) (λ n q same. cc) 1 front x back u.j at in
    grind (arith, u.number, within, ahead_front spots_of_router r done d rest, further_flat r done, also_count r done)
