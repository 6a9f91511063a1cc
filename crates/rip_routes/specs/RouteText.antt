-- What the text of routers' own tables says, in the words of its format.
use Rattle.std.specs.Prelude.{◌≡◌, ◌≢◌, ◌⊎◌, ◌↔◌, ℕ, ◌+◌, ◌<◌, ◌≤◌, ◌^◌, true, slice_get, List, [], ◌∷◌, ◌++◌, codes, decimal, length, Option, Some, None, Result, Ok, Err, ⊤}
use Rattle.std.specs.List.{AllByRecursion}
use Rattle.rip_wire.specs.Address.{address_text}
use Rattle.rip_wire.specs.Prefix.{Block, IsBlock, prefix_text}
use Rattle.rip_plan.specs.Network.{Network}
use Rattle.rip_plan.specs.Relations.{IsDirect, IsLinkName, IsOn, IsPrefix, IsRouterName}
use Rattle.rip_log.specs.LogText.{AreFields, AreLines, IsBare}
use Rattle.rip_log.specs.declared.limits.TheConstants.{MOST_LINE_BYTES, MOST_LINES}
use Rattle.rip_table.specs.declared.limits.TheConstants.{MOST_PREFIXES}
use Rattle.rip_routes.specs.OwnTables.{OwnRoute, OwnTables}
use Rattle.rip_routes.specs.declared.error.RoutesCause.{RoutesCause}
use Rattle.rip_routes.specs.declared.error.RoutesCause.TheVariants.{Changed, Fields, LongLine, Metric, Prefix, Router, TooManyLines, TooManyPrefixes, Way as BadWay}
use Rattle.rip_routes.specs.declared.error.RoutesError.{RoutesError}
use Rattle.rip_routes.specs.declared.next_hop.NextHop.TheVariants.{Over, Via}
use Rattle.rip_routes.specs.declared.told.Told.{Told}
use Rattle.rip_routes.specs.declared.told.Way.{Way}
use Rattle.rip_routes.specs.declared.told.Way.TheVariants.{Here, To}

-- ---- the fields of a line

-- bytes end, or go on with a comma
abbrev pub IsFromComma : List ℕ → Type 0
IsFromComma [] = ⊤
IsFromComma (b ∷ bytes) = b ≡ 44

-- all that stands before the first comma
pub record IsBeforeComma (bare front : List ℕ) : Type 0 where
  pub no_comma : AllByRecursion (λ b. b ≢ 44) front
  pub rest : List ℕ
  pub from : IsFromComma rest
  pub whole : bare ≡ front ++ rest

-- a line that is not too long, and its fields: a carriage return at its end does not count, nor
-- does what stands from the first comma on
pub record HasFields (line : List ℕ) (fields : List (List ℕ)) : Type 0 where
  pub short : length line ≤ MOST_LINE_BYTES
  pub bare : List ℕ
  pub is_bare : IsBare line bare
  pub front : List ℕ
  pub is_front : IsBeforeComma bare front
  pub are_fields : AreFields front fields

-- blanks alone, or a comment, or a line of totals
abbrev pub SaysNothing : List (List ℕ) → Type 0
SaysNothing [] = ⊤
SaysNothing (first ∷ rest) =
    ((more : List ℕ) × (first ≡ 35 ∷ more))
    ⊎ (first ≡ codes "routes:") ⊎ (first ≡ codes "expect:")

-- ---- what a route's fields mean

-- the text of a prefix
pub record IsPrefixText (text : List ℕ) (p : Block) : Type 0 where
  pub is_block : IsBlock p
  pub spelled : text ≡ prefix_text p

-- the text of a metric: 1 to 16, without zeros in front
pub record IsMetricText (text : List ℕ) (m : ℕ) : Type 0 where
  pub least : 1 ≤ m
  pub most : m ≤ 16
  pub spelled : text ≡ decimal m

-- the plan gives router r prefix p itself, at metric m
abbrev pub HasItself : Network → ℕ → Block → ℕ → Type 0
HasItself n r p m = (k : ℕ) × IsPrefix n k p × IsDirect n r k m

-- the metric of a router's own route that tells none: the plan's, or 1 where there is none
abbrev pub IsOwnMetric : Network → ℕ → Block → ℕ → Type 0
IsOwnMetric n r p m = HasItself n r p m ⊎ (((c : ℕ) → ¬ HasItself n r p c) × (m ≡ 1))

-- these words are a way of router r, which is on the link if it goes over one
abbrev pub IsWay : Network → ℕ → List (List ℕ) → Way → Type 0
IsWay n r words Here = words ≡ codes "here" ∷ []
IsWay n r words (To (Over l)) =
    (name : List ℕ) × (words ≡ codes "over" ∷ name ∷ []) × IsLinkName n l name × IsOn n r l
IsWay n r words (To (Via a)) = (a < 2 ^ 32) × (words ≡ codes "via" ∷ address_text a ∷ [])

-- the way that these words give a route of metric m: none where it is 16, with any way or with the
-- word `unreachable`
abbrev pub GiveWay : Network → ℕ → List (List ℕ) → ℕ → Option Way → Type 0
GiveWay n r words m (Some way) = (m < 16) × IsWay n r words way
GiveWay n r words m None =
    (m ≡ 16) × ((words ≡ codes "unreachable" ∷ []) ⊎ ((way : Way) × IsWay n r words way))

-- what stands behind a route's router and prefix: `here` alone, or a metric and words
abbrev pub GiveRoute : Network → ℕ → Block → List (List ℕ) → ℕ → Option Way → Type 0
GiveRoute n r p rest m way =
    ((rest ≡ codes "here" ∷ []) × IsOwnMetric n r p m × (way ≡ Some Here))
    ⊎ ((text : List ℕ) × (words : List (List ℕ)) × (rest ≡ text ∷ words)
    × IsMetricText text m × GiveWay n r words m way)

-- ---- what a line says

-- three to five fields: two, and these
pub record HasRest (fields : List (List ℕ)) (router prefix : List ℕ) (rest : List (List ℕ))
    : Type 0 where
  pub whole : fields ≡ router ∷ prefix ∷ rest
  pub least : 1 ≤ length rest
  pub most : length rest ≤ 3

-- the first two of them name a router and a prefix
pub record NamesPlace (n : Network) (fields : List (List ℕ)) (r : ℕ) (p : Block)
    (rest : List (List ℕ)) : Type 0 where
  pub router : List ℕ
  pub prefix : List ℕ
  pub has : HasRest fields router prefix rest
  pub named : IsRouterName n r router
  pub is_prefix : IsPrefixText prefix p

-- fields tell the route of a place
pub record TellRoute (n : Network) (fields : List (List ℕ)) (told : Told) : Type 0 where
  pub rest : List (List ℕ)
  pub place : NamesPlace n fields told.router told.prefix rest
  pub gives : GiveRoute n told.router told.prefix rest told.metric told.way

-- of two or three words the first is a metric
abbrev pub KeepMetric : List (List ℕ) → Type 0
KeepMetric (text ∷ word ∷ words) = (m : ℕ) × IsMetricText text m
KeepMetric other = ⊤

-- the first rule that fields break
pub data BreakRule (n : Network) (fields : List (List ℕ)) : RoutesCause → Type 0 where
  other_fields : (length fields < 3) ⊎ (5 < length fields) → BreakRule n fields Fields
  no_router : (router prefix : List ℕ) (rest : List (List ℕ)) → HasRest fields router prefix rest
      → ((r : ℕ) → ¬ IsRouterName n r router) → BreakRule n fields Router
  no_prefix : (router prefix : List ℕ) (rest : List (List ℕ)) → HasRest fields router prefix rest
      → (r : ℕ) → IsRouterName n r router → ((p : Block) → ¬ IsPrefixText prefix p)
      → BreakRule n fields Prefix
  no_metric : (r : ℕ) (p : Block) (rest : List (List ℕ)) → NamesPlace n fields r p rest
      → ¬ KeepMetric rest → BreakRule n fields Metric
  no_way : (r : ℕ) (p : Block) (rest : List (List ℕ)) → NamesPlace n fields r p rest
      → KeepMetric rest → ((m : ℕ) (way : Option Way) → ¬ GiveRoute n r p rest m way)
      → BreakRule n fields BadWay

-- fields say nothing, or tell a route, or break a rule
abbrev pub FieldsSay : Network → List (List ℕ) → Result (Option Told) RoutesCause → Type 0
FieldsSay n fields (Ok None) = SaysNothing fields
FieldsSay n fields (Ok (Some told)) = (¬ SaysNothing fields) × TellRoute n fields told
FieldsSay n fields (Err cause) = (¬ SaysNothing fields) × BreakRule n fields cause

-- what a line says: it is too long, or its fields say this
abbrev pub LineSays : Network → List ℕ → Result (Option Told) RoutesCause → Type 0
LineSays n line said =
    ((MOST_LINE_BYTES < length line) × (said ≡ Err LongLine))
    ⊎ ((fields : List (List ℕ)) × HasFields line fields × FieldsSay n fields said)

-- ---- what routes make of tables

-- these items are each of those that stand somewhere, once, in the order in which they first stand:
-- where a later one stands, each earlier one stands before it
pub record AreFirsts {A : Type 0} (Stands : ℕ → A → Type 0) (items : List A) : Type 0 where
  pub once : (i j : ℕ) (x : A) → slice_get items i ≡ Some x → slice_get items j ≡ Some x → i ≡ j
  pub all : (x : A) → ((i : ℕ) × (slice_get items i ≡ Some x)) ↔ ((k : ℕ) × Stands k x)
  pub order : (i j l : ℕ) (x y : A) → i < j → slice_get items i ≡ Some x
      → slice_get items j ≡ Some y → Stands l y → (k : ℕ) × Stands k x × (k < l)

-- route k of these is told of router r and prefix p
abbrev pub IsOfPlace : List Told → ℕ → Block → ℕ → Told → Type 0
IsOfPlace tolds r p k told =
    (slice_get tolds k ≡ Some told) × (told.router ≡ r) × (told.prefix ≡ p)

-- and has this way
abbrev pub HasWay : List Told → ℕ → Block → ℕ → Way → Type 0
HasWay tolds r p k way = (told : Told) × IsOfPlace tolds r p k told × (told.way ≡ Some way)

-- route k of these is told of a prefix that the plan has not
abbrev pub HasOther : Network → List Told → ℕ → Block → Type 0
HasOther n tolds k p =
    (told : Told) × (slice_get tolds k ≡ Some told) × (told.prefix ≡ p)
    × ((j : ℕ) → ¬ IsPrefix n j p)

-- the route of a place of which something is told: it has the metric that each of them tells, is
-- the router's own where one of them says so, and has their next hops
pub record MakeRoute (tolds : List Told) (r : ℕ) (p : Block) (route : OwnRoute) : Type 0 where
  pub some : (k : ℕ) × (told : Told) × IsOfPlace tolds r p k told
  pub metric : (k : ℕ) (told : Told) → IsOfPlace tolds r p k told → told.metric ≡ route.metric
  pub here : (route.here ≡ true) ↔ ((k : ℕ) × HasWay tolds r p k Here)
  pub hops : AreFirsts (λ k hop. HasWay tolds r p k (To hop)) route.hops

-- the route of a place, or none where nothing is told of it
abbrev pub MakePlace : List Told → ℕ → Block → Option OwnRoute → Type 0
MakePlace tolds r p None = (k : ℕ) (told : Told) → ¬ IsOfPlace tolds r p k told
MakePlace tolds r p (Some route) = MakeRoute tolds r p route

-- routes make tables: the prefixes are the plan's, and then the others of which something is told;
-- a router is listed where something is told of it
pub record MakeTables (n : Network) (tolds : List Told) (t : OwnTables) : Type 0 where
  pub others : List Block
  pub prefixes : t.prefixes ≡ n.prefixes ++ others
  pub firsts : AreFirsts (HasOther n tolds) others
  pub listed : (r : ℕ) → (t.listed r ≡ true)
      ↔ ((k : ℕ) × (told : Told) × (slice_get tolds k ≡ Some told) × (told.router ≡ r))
  pub routes : (r : ℕ) (p : Block) → MakePlace tolds r p (t.routes r p)

-- ---- which routes are refused

-- the route changes the metric of its place in these tables
pub record IsChange (t : OwnTables) (told : Told) (p : Block) (old new : ℕ) : Type 0 where
  pub place : p ≡ told.prefix
  pub route : OwnRoute
  pub stands : t.routes told.router told.prefix ≡ Some route
  pub stood : old ≡ route.metric
  pub told_now : new ≡ told.metric
  pub differ : route.metric ≢ told.metric

-- its prefix is one too many: it is not in the list, which is full
pub record IsTooMany (t : OwnTables) (told : Told) : Type 0 where
  pub absent : (k : ℕ) → slice_get t.prefixes k ≢ Some told.prefix
  pub full : MOST_PREFIXES ≤ length t.prefixes

-- a route is refused, where these are the tables before it
pub data IsRefused (t : OwnTables) (told : Told) : RoutesCause → Type 0 where
  change : (p : Block) (old new : ℕ) → IsChange t told p old new
      → IsRefused t told (Changed p old new)
  too_many_prefixes : IsTooMany t told → IsRefused t told TooManyPrefixes

-- none of these routes is refused, where the tables before it are what those before it make
abbrev pub AreAccepted : Network → List Told → Type 0
AreAccepted n tolds =
    (front rest : List Told) (told : Told) (t : OwnTables) (cause : RoutesCause)
    → tolds ≡ front ++ told ∷ rest → MakeTables n front t → ¬ IsRefused t told cause

-- ---- what a text tells

-- the routes that lines tell, in order; the others say nothing
abbrev pub AreTold : Network → List (List ℕ) → List Told → Type 0
AreTold n [] tolds = tolds ≡ []
AreTold n (line ∷ lines) [] = LineSays n line (Ok None) × AreTold n lines []
AreTold n (line ∷ lines) (told ∷ tolds) =
    (LineSays n line (Ok None) × AreTold n lines (told ∷ tolds))
    ⊎ (LineSays n line (Ok (Some told)) × AreTold n lines tolds)

-- a text tells these tables: there are not too many lines, each tells a route or says nothing, and
-- no route is refused
pub record TellTables (n : Network) (text : List ℕ) (t : OwnTables) : Type 0 where
  pub lines : List (List ℕ)
  pub are_lines : AreLines text lines
  pub few : length lines ≤ MOST_LINES
  pub tolds : List Told
  pub are_told : AreTold n lines tolds
  pub accepted : AreAccepted n tolds
  pub made : MakeTables n tolds t

-- why a line is refused that comes after k others, which tell these routes: there are too many, or
-- it breaks a rule by itself, or its route is refused
pub data IsFault (n : Network) (k : ℕ) (tolds : List Told) (line : List ℕ) (cause : RoutesCause)
    : Type 0 where
  too_many : k ≡ MOST_LINES → cause ≡ TooManyLines → IsFault n k tolds line cause
  bad : k < MOST_LINES → LineSays n line (Err cause) → IsFault n k tolds line cause
  refused : k < MOST_LINES → (told : Told) → LineSays n line (Ok (Some told)) → (t : OwnTables)
      → MakeTables n tolds t → IsRefused t told cause → IsFault n k tolds line cause

-- the first line of a text that is refused, and its lowest code
pub record RefusesText (n : Network) (text : List ℕ) (e : RoutesError) : Type 0 where
  pub before : List (List ℕ)
  pub bad : List ℕ
  pub after : List (List ℕ)
  pub are_lines : AreLines text (before ++ bad ∷ after)
  pub number : e.line ≡ length before + 1
  pub tolds : List Told
  pub are_told : AreTold n before tolds
  pub accepted : AreAccepted n tolds
  pub fault : IsFault n (length before) tolds bad e.cause
