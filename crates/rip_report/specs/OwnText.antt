-- What `audit --routes` and `explain --routes` print.
use Rattle.std.specs.Prelude.{◌≡◌, ◌≢◌, ◌↔◌, ℕ, ◌==◌, ◌<◌, Bool, true, false, if◌then◌else◌, List, [], ◌++◌, length, codes, decimal, None}
use Rattle.std.specs.List.{flat_map}
use Rattle.rip_wire.specs.Address.{address_text}
use Rattle.rip_plan.specs.Network.{Network}
use Rattle.rip_plan.specs.PlanOf.{IsPlanOfText}
use Rattle.rip_table.specs.State.{State}
use Rattle.rip_routes.specs.OwnTables.{OwnRoute, OwnTables, route_at}
use Rattle.rip_routes.specs.RouteText.{RefusesText, TellTables}
use Rattle.rip_routes.specs.declared.error.RoutesCause.{RoutesCause}
use Rattle.rip_routes.specs.declared.error.RoutesCause.TheVariants as causes
use Rattle.rip_routes.specs.declared.error.RoutesError.{RoutesError}
use Rattle.rip_routes.specs.declared.next_hop.NextHop.{NextHop}
use Rattle.rip_routes.specs.declared.next_hop.NextHop.TheVariants.{Over, Via}
use Rattle.rip_check.specs.OwnSettled.{AreRightTables, IsEachListed}
use Rattle.rip_check.specs.OwnTells.{IsToldBy}
use Rattle.rip_check.specs.OwnVerdicts.{IsNextUnlisted, IsNextWrong, IsOwnFailing, IsOwnSound}
use Rattle.rip_check.specs.OwnWalks.{OwnPacketsArrive}
use Rattle.rip_check.specs.Networks.{network_at}
use Rattle.rip_check.specs.Paths.{IsLeast}
use Rattle.rip_check.specs.declared.own_verdict.OwnPlace.{OwnPlace}
use Rattle.rip_check.specs.declared.own_verdict.OwnVerdict.{OwnVerdict}
use Rattle.rip_check.specs.declared.own_verdict.OwnVerdict.TheVariants as verdicts
use Rattle.rip_check.specs.declared.own_verdict.Wrong.{Wrong}
use Rattle.rip_check.specs.declared.own_verdict.Wrong.TheVariants as wrongs
use Rattle.rip_report.specs.AuditText.{place_part}
use Rattle.rip_report.specs.ExplainText.{DirectLine, OfferLines, UnreachableLine, least_line}
use Rattle.rip_report.specs.Listings.{TextsBelow, TextsOfPairs}
use Rattle.rip_report.specs.Names.{counts_part, name_of}
use Rattle.rip_report.specs.PlanText.{OfPlan}
use Rattle.rip_report.specs.RefusalText.{at_line, change_text, prefix_part}
use Rattle.rip_report.specs.Written.{Written, line}
use Rattle.rip_report.specs.declared.status.Status.{Status}
use Rattle.rip_report.specs.declared.status.Status.TheVariants.{Refused, Settled, Unsettled, Unclear as IsUnclear}

-- ---- Lines

-- `settled: 3 routers, 3 prefixes`
unfoldable pub own_settled_line : Network → State → List ℕ
own_settled_line n s =
    line (codes "settled: " ++ counts_part (length n.routers) (length s.prefixes))

-- `unclear: router r1: no routes`
unfoldable pub unlisted_line : Network → ℕ → List ℕ
unlisted_line n r =
    line (codes "unclear: router " ++ name_of n.routers r ++ codes ": no routes")

-- what is wrong with a route, behind its metric
abbrev pub wrong_part : Network → Wrong → List ℕ
wrong_part n (wrongs.Metric equation) = codes ", equation " ++ decimal equation
wrong_part n wrongs.Here = codes ", no planned place gives it"
wrong_part n (wrongs.Over l) =
    codes ", link " ++ name_of n.links l ++ codes " does not give it"
wrong_part n (wrongs.Neighbour s l) =
    codes ", router " ++ name_of n.routers s ++ codes " on link " ++ name_of n.links l
    ++ codes " does not give it"
wrong_part n (wrongs.Nobody a) = codes ", no neighbour has " ++ address_text a

-- the routers and links of what is wrong are known
abbrev pub IsKnownWrong : Network → Wrong → Type 0
IsKnownWrong n (wrongs.Metric equation) = Unit {0}
IsKnownWrong n wrongs.Here = Unit {0}
IsKnownWrong n (wrongs.Over l) = l < length n.links
IsKnownWrong n (wrongs.Neighbour s l) = (s < length n.routers) × (l < length n.links)
IsKnownWrong n (wrongs.Nobody a) = Unit {0}

-- the router and the prefix of a place are known, and what is wrong there
pub record IsKnownOwn (n : Network) (s : State) (f : OwnPlace) : Type 0 where
  pub router : f.router < length n.routers
  pub prefix : f.prefix < length s.prefixes
  pub wrong : IsKnownWrong n f.wrong

-- `unsettled: router r1 prefix 10.2.0.0/16: metric 2, link c does not give it`
unfoldable pub own_unsettled_line : Network → State → OwnPlace → List ℕ
own_unsettled_line n s f =
    line (codes "unsettled: " ++ place_part n s f.router f.prefix ++ codes "metric "
    ++ decimal f.metric ++ wrong_part n f.wrong)

-- `over a`, or `via 10.3.0.3`
abbrev pub hop_text : Network → NextHop → List ℕ
hop_text n (Over l) = codes "over " ++ name_of n.links l
hop_text n (Via a) = codes "via " ++ address_text a

-- `  has: 2 over a`
unfoldable pub has_line : ℕ → List ℕ → List ℕ
has_line metric way = line (codes "  has: " ++ decimal metric ++ codes " " ++ way)

-- the router's own way
abbrev pub here_lines : OwnRoute → List ℕ
here_lines route = if route.here then has_line route.metric (codes "here") else []

-- the ways of a route as they were told, the router itself before its next hops
abbrev pub has_lines : Network → OwnRoute → List ℕ
has_lines n route =
    if route.metric == 16 then has_line 16 (codes "unreachable")
    else here_lines route ++ flat_map (λ h. has_line route.metric (hop_text n h)) route.hops

-- ---- Texts

-- what is written of router r and prefix p: a text of the place there, if it fails
pub data OwnFailingText (n : Network) (t : OwnTables) (s : State)
    (IsText : OwnPlace → List ℕ → Type 0) (r p : ℕ)
    : List ℕ → Type 0 where
  fails : (f : OwnPlace) (text : List ℕ) → f.router ≡ r → f.prefix ≡ p
      → IsOwnFailing n s t f → IsText f text → OwnFailingText n t s IsText r p text
  holds : IsOwnSound n s t r p → OwnFailingText n t s IsText r p []

-- a text of each place that fails, router by router and prefix by prefix
abbrev pub OwnAllFailing : Network → OwnTables → State → (OwnPlace → List ℕ → Type 0) → List ℕ
    → Type 0
OwnAllFailing n t s IsText =
    TextsOfPairs (OwnFailingText n t s IsText) (length n.routers) (length s.prefixes)

-- the line of a place that fails
abbrev pub OwnUnsettledLine : Network → State → OwnPlace → List ℕ → Type 0
OwnUnsettledLine n s f text = text ≡ own_unsettled_line n s f

-- the line of a place that does not hold, and under it what the place comes from
pub record OwnPlaceLines (n : Network) (t : OwnTables) (s : State) (f : OwnPlace) (text : List ℕ)
    : Type 0 where
  pub direct : List ℕ
  pub offers : List ℕ
  pub least : ℕ
  pub direct_line : DirectLine n f.router f.prefix direct
  pub offer_lines : OfferLines n s f.router f.prefix offers
  pub is_least : IsLeast (network_at n n.prefixes f.prefix) f.prefix f.router least
  pub whole : text ≡ own_unsettled_line n s f ++ (has_lines n (route_at t f.router f.prefix)
      ++ (direct ++ (offers ++ least_line n f.prefix least)))

-- the texts of an unsettled network: that of its first failing place, or those of all
abbrev pub OwnUnsettledText : Network → OwnTables → State → (OwnPlace → List ℕ → Type 0) → Bool
    → OwnPlace → List ℕ → Type 0
OwnUnsettledText n t s IsText true f = OwnAllFailing n t s IsText
OwnUnsettledText n t s IsText false f = IsText f

-- the line of router r, if nothing is told of it
pub data UnlistedLine (n : Network) (t : OwnTables) (r : ℕ) : List ℕ → Type 0 where
  unlisted : t.listed r ≢ true → UnlistedLine n t r (unlisted_line n r)
  is_listed : t.listed r ≡ true → UnlistedLine n t r []

-- the verdict on the routers' own tables, which tell their neighbours s
pub data OwnVerdictText (n : Network) (all : Bool) (t : OwnTables) (s : State)
    : Written → Type 0 where
  a_settled : AreRightTables n t
      → OwnVerdictText n all t s (record { text = own_settled_line n s; status = Settled })
  an_unlisted : (r : ℕ) → IsNextUnlisted n t 0 r
      → OwnVerdictText n all t s (record { text = unlisted_line n r; status = IsUnclear })
  an_unsettled : (f : OwnPlace) (text : List ℕ) → IsEachListed n t → IsNextWrong n s t None f
      → OwnUnsettledText n t s (OwnUnsettledLine n s) all f text
      → OwnVerdictText n all t s (record { text = text; status = Unsettled })

-- a router without a line: the first, or all of them
abbrev pub UnlistedText : Network → OwnTables → Bool → ℕ → List ℕ → Type 0
UnlistedText n t true r = TextsBelow (UnlistedLine n t) (length n.routers)
UnlistedText n t false r = λ text. text ≡ unlisted_line n r

-- the verdict, and what it comes from
pub data OwnExplainText (n : Network) (all : Bool) (t : OwnTables) (s : State)
    : Written → Type 0 where
  a_settled : (lines : List ℕ) → AreRightTables n t
      → TextsOfPairs (UnreachableLine n s) (length n.routers) (length s.prefixes) lines
      → OwnExplainText n all t s
      (record { text = own_settled_line n s ++ lines; status = Settled })
  an_unlisted : (r : ℕ) (text : List ℕ) → IsNextUnlisted n t 0 r → UnlistedText n t all r text
      → OwnExplainText n all t s (record { text = text; status = IsUnclear })
  an_unsettled : (f : OwnPlace) (text : List ℕ) → IsEachListed n t → IsNextWrong n s t None f
      → OwnUnsettledText n t s (OwnPlaceLines n t s) all f text
      → OwnExplainText n all t s (record { text = text; status = Unsettled })

-- ---- Refusals

-- the number and the word of what refuses a line
unfoldable pub routes_cause_text : RoutesCause → List ℕ
routes_cause_text causes.LongLine = codes "1 LongLine"
routes_cause_text causes.Fields = codes "2 Fields"
routes_cause_text causes.Router = codes "3 Router"
routes_cause_text causes.Prefix = codes "4 Prefix"
routes_cause_text causes.Metric = codes "5 Metric"
routes_cause_text causes.Way = codes "6 Way"
routes_cause_text (causes.Changed p old new) =
    codes "7 Changed" ++ prefix_part p ++ change_text old new
routes_cause_text causes.TooManyLines = codes "8 TooManyLines"
routes_cause_text causes.TooManyPrefixes = codes "9 TooManyPrefixes"
routes_cause_text causes.Read = codes "10 Read"
routes_cause_text causes.Memory = codes "11 Memory"

-- `refused: routes line 7: 6 Way`
abbrev pub refused_routes : RoutesError → Written
refused_routes e = record {
  text = line (codes "refused: " ++ at_line (codes "routes line ") e.line
      ++ routes_cause_text e.cause);
  status = Refused;
}

-- ---- Reports

-- what is written for a network and a text of routes: what refuses the text, or one of the texts
-- that a command has for the tables that it tells
pub data RoutesReport (IsText : OwnTables → State → Written → Type 0) (n : Network)
    (routes : List ℕ) : Written → Type 0 where
  a_refusal : (e : RoutesError) → RefusesText n routes e
      → RoutesReport IsText n routes (refused_routes e)
  of_tables : (t : OwnTables) (s : State) (w : Written) → TellTables n routes t
      → IsToldBy n t s → IsText t s w → RoutesReport IsText n routes w

-- the same for the bytes of a plan
abbrev pub RoutesText : (Network → OwnTables → State → Written → Type 0) → List ℕ → List ℕ
    → Written → Type 0
RoutesText IsText plan routes = OfPlan (λ n. RoutesReport (IsText n) n routes) plan

-- n is the network of the document that the bytes of a plan are, and t the tables that a text of
-- routes tells
pub record AreTold (plan routes : List ℕ) (n : Network) (t : OwnTables) : Type 0 where
  pub network : IsPlanOfText plan n
  pub told : TellTables n routes t

-- what a verdict's status says of the tables
pub record IsOwnJudged (n : Network) (t : OwnTables) (status : Status) : Type 0 where
  pub settled : (status ≡ Settled) ↔ AreRightTables n t
  pub arrive : status ≡ Settled → (s : State) → IsToldBy n t s → OwnPacketsArrive n s t

-- a status is right: Settled exactly where the tables are right, and then packets arrive, over any
-- choice of the ways; but for Refused, which says nothing of tables
abbrev pub JudgesRightly : Network → OwnTables → Status → Type 0
JudgesRightly n t status = status ≢ Refused → IsOwnJudged n t status

-- the status of a verdict
abbrev pub own_status : OwnVerdict → Status
own_status verdicts.Settled = Settled
own_status (verdicts.Unsettled f) = Unsettled
own_status (verdicts.NoRoutes r) = IsUnclear
