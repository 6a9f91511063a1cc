-- The rows of the table of codes, in the order in which they are asked, and that each fault is told in a row where
-- something stands.
use Rattle.std.proofs.Common.{◌≡◌, map, ℕ, ◌<◌, ◌≤◌, ◌⊎◌, inl, inr, List, [], ◌∷◌, length, Some, Result, refl, arith}
use Rattle.std.specs.Prelude.{codes as codes_of}
use Rattle.toml.specs.Data.{Data, Members}
use Rattle.rip_plan.specs.declared.error.PlanCode.{PlanCode}
use Rattle.rip_plan.specs.declared.error.PlanCode.TheVariants as codes
use Rattle.rip_plan.specs.declared.error.At.{At}
use Rattle.rip_plan.specs.declared.error.At.TheVariants.{Link, LinkOnly, LinkPrefix, Router, RouterInterface, RouterOwn}
use Rattle.rip_plan.specs.declared.error.PlanError.{PlanError}
use Rattle.rip_plan.specs.PlanFaults.{Before, nth, pass_of, TableFault, IsItem, IsSo, IsAstray, place_spots}
use Rattle.rip_plan.specs.Relations.{IsGatewayOfNeighbour}
use Rattle.rip_plan.specs.PlanOf.{PlanOf}
use Rattle.rip_plan.specs.Network.{Network}
use Rattle.rip_plan.proofs.FindingLemmas.{Among, Each, Finds, Found, InTurn, Low, ranked, row_at, Starts}
use Rattle.rip_plan.proofs.SpotLemmas.{nth_from, item_from, listed_item, prefix_item, own_item, interface_item, also_item}

-- ---- the rows of one place

-- the codes of the first pass at a place, in the order in which they are asked
abbrev pub codes_at : At → List PlanCode
codes_at (Link i) = codes.Key ∷ codes.Name ∷ codes.DuplicateName ∷ []
codes_at (LinkPrefix i j) = codes.Key ∷ codes.Prefix ∷ codes.Limit ∷ []
codes_at (LinkOnly i j) = codes.Key ∷ codes.Prefix ∷ codes.Limit ∷ []
codes_at (Router r) = codes.Key ∷ codes.Name ∷ codes.DuplicateName ∷ []
codes_at (RouterInterface r j) = codes.Key ∷ codes.Address ∷ codes.Cost ∷ codes.UnknownLink ∷ codes.OutsidePrefix ∷ codes.Limit ∷ []
codes_at (RouterOwn r j) = codes.Key ∷ codes.Address ∷ codes.Prefix ∷ codes.Cost ∷ codes.UnknownLink ∷ codes.Limit ∷ []
codes_at place = []

abbrev pub asked_at : At → List Found
asked_at place = map (λ c. row_at c place) (codes_at place)

abbrev pub prefix_rows : ℕ → ℕ → Found → Type 0
prefix_rows i j = Among (asked_at (LinkPrefix i j)) (λ o. ⊥)

abbrev pub listed_rows : ℕ → ℕ → Found → Type 0
listed_rows i j = Among (asked_at (LinkOnly i j)) (λ o. ⊥)

abbrev pub interface_rows : ℕ → ℕ → Found → Type 0
interface_rows r j = Among (asked_at (RouterInterface r j)) (λ o. ⊥)

abbrev pub own_rows : ℕ → ℕ → Found → Type 0
own_rows r j = Among (asked_at (RouterOwn r j)) (λ o. ⊥)

-- and those of the lists of a table, which come after its own
abbrev pub rest_at : At → Found → Type 0
rest_at (Link i) = λ o. Each (prefix_rows i) 1 o ⊎ Each (listed_rows i) 1 o
rest_at (Router r) = λ o. Each (interface_rows r) 1 o ⊎ Each (own_rows r) 1 o
rest_at place = λ o. ⊥

abbrev pub link_rows : ℕ → Found → Type 0
link_rows i = Among (asked_at (Link i)) (rest_at (Link i))

abbrev pub router_rows : ℕ → Found → Type 0
router_rows r = Among (asked_at (Router r)) (rest_at (Router r))

-- ---- their order

pub turn_at : (place : At) → InTurn (asked_at place) (rest_at place)
turn_at place = grind arith

pub prefix_starts : (i j : ℕ) (o : Found) → prefix_rows i j o → Starts (0 ∷ 1 ∷ i ∷ 1 ∷ []) j (ranked o)
prefix_starts i j o h = grind arith

pub listed_starts : (i j : ℕ) (o : Found) → listed_rows i j o → Starts (0 ∷ 1 ∷ i ∷ 2 ∷ []) j (ranked o)
listed_starts i j o h = grind arith

pub link_starts : (i : ℕ) (o : Found) → link_rows i o → Starts (0 ∷ 1 ∷ []) i (ranked o)
link_starts i o h = grind arith

pub interface_starts : (r j : ℕ) (o : Found) → interface_rows r j o → Starts (0 ∷ 2 ∷ r ∷ 1 ∷ []) j (ranked o)
interface_starts r j o h = grind arith

pub own_starts : (r j : ℕ) (o : Found) → own_rows r j o → Starts (0 ∷ 2 ∷ r ∷ 2 ∷ []) j (ranked o)
own_starts r j o h = grind arith

pub router_starts : (r : ℕ) (o : Found) → router_rows r o → Starts (0 ∷ 2 ∷ []) r (ranked o)
router_starts r o h = grind arith

-- ---- the rows of the later passes

-- those of one code, in one pass
abbrev pub code_rows : ℕ → PlanCode → Found → Type 0
code_rows n c o = (o.pass ≡ n) × (o.error.code ≡ c)

-- those of each of these passes, and then those of the last pass
abbrev pub later_rows : List (ℕ × PlanCode) → Found → Type 0
later_rows [] o = code_rows 6 codes.UnknownLink o
later_rows ((n, c) ∷ passes) o = code_rows n c o ⊎ later_rows passes o

abbrev pub pass_rows : Found → Type 0
pass_rows = later_rows ((1, codes.DuplicatePrefix) ∷ (2, codes.TwiceOnLink) ∷ (3, codes.DuplicateAddress) ∷ (4, codes.DuplicateAddress) ∷ (5, codes.NoInterface) ∷ [])

pub pass_apart : (e o : Found) → e.pass < o.pass → Before (ranked o) (ranked e) → ⊥
pass_apart e o h before = grind arith

-- ---- all rows of tables

abbrev pub links_rows : Found → Type 0
links_rows = Each link_rows 1

abbrev pub routers_rows : Found → Type 0
routers_rows = Each router_rows 1

abbrev pub first_rows : Found → Type 0
first_rows o = links_rows o ⊎ routers_rows o

abbrev pub table_rows : Found → Type 0
table_rows o = first_rows o ⊎ pass_rows o

pub first_pass : (o : Found) → first_rows o → (o.pass ≡ pass_of o.error.code) × (o.pass ≡ 0)
first_pass o h = grind arith

pub links_sooner : (e o : Found) → links_rows e → routers_rows o → Before (ranked o) (ranked e) → ⊥
links_sooner e o (i, le, h) (r, le', k) = grind arith

pub prefixes_sooner : (i : ℕ) (e o : Found) → Each (prefix_rows i) 1 e → Each (listed_rows i) 1 o → Before (ranked o) (ranked e) → ⊥
prefixes_sooner i e o (j, le, h) (m, le', k) = grind arith

pub interfaces_sooner : (r : ℕ) (e o : Found) → Each (interface_rows r) 1 e → Each (own_rows r) 1 o → Before (ranked o) (ranked e) → ⊥
interfaces_sooner r e o (j, le, h) (m, le', k) = grind arith

pub tables_low : Low table_rows (0 ∷ 1 ∷ [])
tables_low o h before = grind arith

module _ (document : Members) (links routers : List Data) where
  -- the fault is one by the table of codes
  abbrev pub IsTold : Found → Type 0
  IsTold o = TableFault document links routers o.error.code o.error.place

  -- the two faults of own prefixes that have a pass of their own
  abbrev pub IsGatewayTakenAt : At → Type 0
  IsGatewayTakenAt (RouterOwn r j) = (n : Network) × PlanOf document n × IsSo (IsGatewayOfNeighbour n) (place_spots links routers) (RouterOwn r j)
  IsGatewayTakenAt place = ⊥

  abbrev pub IsAstrayAt : At → Type 0
  IsAstrayAt (RouterOwn r j) = (n : Network) × PlanOf document n × IsSo (IsAstray n) (place_spots links routers) (RouterOwn r j)
  IsAstrayAt place = ⊥

  abbrev pub IsGatewayTaken : Found → Type 0
  IsGatewayTaken o = IsGatewayTakenAt o.error.place × (o.error.code ≡ codes.DuplicateAddress) × (o.pass ≡ 4)

  abbrev pub IsLast : Found → Type 0
  IsLast o = IsAstrayAt o.error.place × (o.error.code ≡ codes.UnknownLink) × (o.pass ≡ 6)

  abbrev pub IsOfTables : Found → Type 0
  IsOfTables o = (IsTold o × (o.pass ≡ pass_of o.error.code)) ⊎ (IsGatewayTaken o ⊎ IsLast o)

  -- what is found in the pass of its code
  pub told_finds : {A : Type 0} (R : Found → Type 0) (r : Result A PlanError) → ((o : Found) → R o → o.pass ≡ pass_of o.error.code) → Finds IsTold R r → Finds IsOfTables R r
  told_finds R r its h = grind arith

  -- ---- each fault of the tables is told in one of the rows

  -- what stands at a place
  abbrev StandsAt : At → Type 0
  StandsAt (Link i) = (d : Data) × (nth links i ≡ Some d)
  StandsAt (LinkPrefix i j) = (x : Data) × IsItem (codes_of "prefixes") links i j x
  StandsAt (LinkOnly i j) = (x : Data) × IsItem (codes_of "only") links i j x
  StandsAt (Router r) = (d : Data) × (nth routers r ≡ Some d)
  StandsAt (RouterInterface r j) = (x : Data) × IsItem (codes_of "interface") routers r j x
  StandsAt (RouterOwn r j) = (x : Data) × IsItem (codes_of "own") routers r j x
  StandsAt place = ⊥

  -- something stands at the place of a fault, and the code is asked there, or it is one of a later pass
  asked : (R : Found → Type 0) (c : PlanCode) (place : At) → TableFault document links routers c place → (StandsAt place × Among (asked_at place) R (row_at c place)) ⊎ pass_rows (row_at c place)
  asked R codes.Key (Link i) h = inl ((h.0, h.1), inl refl)
  asked R codes.Name (Link i) h = inl ((h.0, h.2), inr (inl refl))
  asked R codes.DuplicateName (Link i) h = inl ((h.0, h.4), inr (inr (inl refl)))
  asked R codes.Key (LinkPrefix i j) h = inl ((h.0, h.1), inl refl)
  asked R codes.Prefix (LinkPrefix i j) h = inl ((_, h.1), inr (inl refl))
  asked R codes.Limit (LinkPrefix i j) h = inl (prefix_item links routers h.0 i j h.1, inr (inr (inl refl)))
  asked R codes.Key (LinkOnly i j) h = inl ((h.0, h.1), inl refl)
  asked R codes.Prefix (LinkOnly i j) h = inl ((_, h.1), inr (inl refl))
  asked R codes.Limit (LinkOnly i j) h = inl (listed_item links h.0 i j h.1, inr (inr (inl refl)))
  asked R codes.Key (Router r) h = inl ((h.0, h.1), inl refl)
  asked R codes.Name (Router r) h = inl ((h.0, h.2), inr (inl refl))
  asked R codes.DuplicateName (Router r) h = inl ((h.0, h.4), inr (inr (inl refl)))
  asked R codes.Key (RouterInterface r j) h = inl ((h.0, h.1), inl refl)
  asked R codes.Address (RouterInterface r j) h = inl ((h.0, h.1), inr (inl refl))
  asked R codes.Cost (RouterInterface r j) h = inl ((h.0, h.1), inr (inr (inl refl)))
  asked R codes.UnknownLink (RouterInterface r j) h = inl ((h.0, h.1), inr (inr (inr (inl refl))))
  asked R codes.OutsidePrefix (RouterInterface r j) h = inl ((h.0, h.1), inr (inr (inr (inr (inl refl)))))
  asked R codes.Limit (RouterInterface r j) (inl h) = inl (interface_item routers h.0 r j h.1, inr (inr (inr (inr (inr (inl refl))))))
  asked R codes.Limit (RouterInterface r j) (inr h) = inl (also_item routers h.0 r j h.1, inr (inr (inr (inr (inr (inl refl))))))
  asked R codes.Key (RouterOwn r j) h = inl ((h.0, h.1), inl refl)
  asked R codes.Address (RouterOwn r j) h = inl ((h.0, h.1), inr (inl refl))
  asked R codes.Prefix (RouterOwn r j) h = inl ((h.0, h.2), inr (inr (inl refl)))
  asked R codes.Cost (RouterOwn r j) h = inl ((h.0, h.1), inr (inr (inr (inl refl))))
  asked R codes.UnknownLink (RouterOwn r j) h = inl ((h.0, h.1), inr (inr (inr (inr (inl refl)))))
  asked R codes.Limit (RouterOwn r j) h = inl (own_item links routers h.0 r j h.1, inr (inr (inr (inr (inr (inl refl))))))
  asked R codes.DuplicatePrefix place h = inr (inl (refl, refl))
  asked R codes.TwiceOnLink place h = inr (inr (inl (refl, refl)))
  asked R codes.DuplicateAddress place h = inr (inr (inr (inl (refl, refl))))
  asked R codes.NoInterface place h = inr (inr (inr (inr (inr (inl (refl, refl))))))
  asked R c place h = absurd h

  first_row : (place : At) (o : Found) → StandsAt place → Among (asked_at place) (rest_at place) o → first_rows o
  first_row (Link i) o (d, is) row = inl (i, (nth_from links i d is).0, row)
  first_row (LinkPrefix i j) o (x, item) row = let at = item_from (codes_of "prefixes") links i j x item in inl (i, at.0, inr (inr (inr (inl (j, at.2, row)))))
  first_row (LinkOnly i j) o (x, item) row = let at = item_from (codes_of "only") links i j x item in inl (i, at.0, inr (inr (inr (inr (j, at.2, row)))))
  first_row (Router r) o (d, is) row = inr (r, (nth_from routers r d is).0, row)
  first_row (RouterInterface r j) o (x, item) row = let at = item_from (codes_of "interface") routers r j x item in inr (r, at.0, inr (inr (inr (inl (j, at.2, row)))))
  first_row (RouterOwn r j) o (x, item) row = let at = item_from (codes_of "own") routers r j x item in inr (r, at.0, inr (inr (inr (inr (j, at.2, row)))))
  first_row place o stands row = absurd stands

  pub covers : (c : PlanCode) (place : At) → TableFault document links routers c place → table_rows (row_at c place)
  covers c place h = elim (asked (rest_at place) c place h) [ inl first ↦ inl (first_row place _ first.0 first.1) | inr later ↦ inr later ]

  -- ---- something stands where a row is told

  among_row : (place : At) (cs : List PlanCode) (R : Found → Type 0) (o : Found) → Among (map (λ c. row_at c place) cs) R o → ((c : PlanCode) × (o ≡ row_at c place)) ⊎ R o
  among_row place [] R o row = inr row
  among_row place (c ∷ cs) R o (inl is) = inl (c, is)
  among_row place (c ∷ cs) R o (inr row) = among_row place cs R o row

  pub stands : (place : At) (o : Found) → o.pass ≡ 0 → IsTold o → Among (asked_at place) (rest_at place) o → StandsAt place ⊎ rest_at place o
  stands place o zero f row = grind (arith, among_row, asked)

  pub item_stands : (place : At) (o : Found) → (rest_at place o → ⊥) → o.pass ≡ 0 → IsTold o → Among (asked_at place) (rest_at place) o → StandsAt place
  item_stands place o none zero f row = elim (stands place o zero f row) [ inl here ↦ here | inr rest ↦ absurd (none rest) ]

  -- a table whose row is told, or a row of its lists, is one of the document's
  pub link_within : (i : ℕ) (o : Found) → IsTold o → link_rows i o → i ≤ length links
  link_within i o f row =
      elim (stands (Link i) o (link_starts i o row).0 f row) [
        | inl (d, is) ↦ (nth_from links i d is).1
        | inr (inl (j, le, later)) ↦
            let (x, item) = item_stands (LinkPrefix i j) o (λ n. n) (prefix_starts i j o later).0 f later in (item_from (codes_of "prefixes") links i j x item).1
        | inr (inr (j, le, later)) ↦
            let (x, item) = item_stands (LinkOnly i j) o (λ n. n) (listed_starts i j o later).0 f later in (item_from (codes_of "only") links i j x item).1
      ]

  pub router_within : (r : ℕ) (o : Found) → IsTold o → router_rows r o → r ≤ length routers
  router_within r o f row =
      elim (stands (Router r) o (router_starts r o row).0 f row) [
        | inl (d, is) ↦ (nth_from routers r d is).1
        | inr (inl (j, le, later)) ↦
            let (x, item) = item_stands (RouterInterface r j) o (λ n. n) (interface_starts r j o later).0 f later in (item_from (codes_of "interface") routers r j x item).1
        | inr (inr (j, le, later)) ↦
            let (x, item) = item_stands (RouterOwn r j) o (λ n. n) (own_starts r j o later).0 f later in (item_from (codes_of "own") routers r j x item).1
      ]
