-- What `audit` prints.
use Rattle.std.specs.Prelude.{◌≡◌, ◌≢◌, ◌↔◌, ℕ, ◌==◌, ◌<◌, nat_lt, Bool, true, false, if◌then◌else◌, List, [], ◌++◌, length, filter, codes, decimal, None}
use Rattle.rip_plan.specs.Network.{Network, each_below, is_of, numbers_where}
use Rattle.rip_table.specs.State.{State}
use Rattle.rip_check.specs.declared.verdict.Place2.{Place2}
use Rattle.rip_check.specs.declared.verdict.Unclear.{Unclear}
use Rattle.rip_check.specs.declared.verdict.Unclear.TheVariants.{NotHeard, TwoMetrics, Missing, ShownOn, TwoWays}
use Rattle.rip_check.specs.declared.verdict.Verdict.{Verdict}
use Rattle.rip_check.specs.declared.verdict.Verdict.TheVariants as verdicts
use Rattle.rip_check.specs.declared.way.Way.{Way}
use Rattle.rip_check.specs.declared.way.Way.TheVariants.{Unreachable, Here, Over}
use Rattle.rip_report.specs.Lines.{reason_part}
use Rattle.rip_report.specs.Listings.{TextsOfPairs}
use Rattle.rip_report.specs.Names.{IsKnownWay, counts_part, name_of, prefix_name}
use Rattle.rip_report.specs.ReportText.{ReportText}
use Rattle.rip_report.specs.Written.{Written, line}
use Rattle.rip_report.specs.declared.status.Status.{Status}
use Rattle.rip_report.specs.declared.status.Status.TheVariants.{Refused, Settled, Unsettled, Unclear as IsUnclear}
use Rattle.rip_check.specs.Laws.{ShowsRightTables}
use Rattle.rip_check.specs.Verdicts.{IsFailing, IsNextUnsettled, IsSound, ShowsTables}
use Rattle.rip_check.specs.Firsts.{IsFirstTrouble}
use Rattle.rip_check.specs.Settled.{IsPlainRight}
use Rattle.rip_check.specs.Tables.{Shows, Tables}
use Rattle.rip_check.specs.Told.{told}
use Rattle.rip_check.specs.Walks.{PacketsArrive}

-- ---- Lines

-- router r has one interface
abbrev pub has_one_interface : Network → ℕ → Bool
has_one_interface n r = length (numbers_where (is_of r) 0 n.interfaces) == 1

-- how many routers are leaves
abbrev pub leaves_of : Network → ℕ
leaves_of n = length (filter (has_one_interface n) (each_below (length n.routers) (λ r. r)))

-- `, 1 leaf`, where there are leaves
abbrev pub leaf_part : ℕ → List ℕ
leaf_part leaves = if nat_lt 0 leaves then codes ", " ++ decimal leaves ++ codes " leaf" else []

-- `settled: 3 routers, 3 prefixes`
unfoldable pub settled_line : Network → State → List ℕ
settled_line n s =
    line (codes "settled: " ++ counts_part (length n.routers) (length s.prefixes)
    ++ leaf_part (leaves_of n))

-- `router r1 prefix 10.2.0.0/16: `, by their numbers
abbrev pub place_part : Network → State → ℕ → ℕ → List ℕ
place_part n s r p =
    codes "router " ++ name_of n.routers r ++ codes " prefix " ++ prefix_name s p ++ codes ": "

-- `metric 3, equation 2`, or of a leaf that cannot show it `leaf metric 3, equation 2`
abbrev pub metric_part : Bool → ℕ → ℕ → List ℕ
metric_part hidden metric equation =
    (if hidden then codes "leaf " else []) ++ codes "metric " ++ decimal metric
    ++ codes ", equation " ++ decimal equation

-- `, link c does not give it`: the way, which does not give the metric
abbrev pub wrong_way_part : Network → Way → List ℕ
wrong_way_part n (Over l) = codes ", link " ++ name_of n.links l ++ codes " does not give it"
wrong_way_part n Here = codes ", no planned place gives it"
wrong_way_part n Unreachable = codes ", no planned place gives it"

-- what fails at a place: `metric 2, link c does not give it`, where the metric is the equation's,
-- or else the metric
abbrev pub unsettled_part : Network → Place2 → List ℕ
unsettled_part n f =
    if f.metric == f.equation then codes "metric " ++ decimal f.metric ++ wrong_way_part n f.way
    else metric_part f.hidden f.metric f.equation

-- the router, the prefix and the link of a place are known
pub record AreKnown (n : Network) (s : State) (f : Place2) : Type 0 where
  pub router : f.router < length n.routers
  pub prefix : f.prefix < length s.prefixes
  pub way : IsKnownWay n f.way

-- `unsettled: router r1 prefix 10.2.0.0/16: metric 3, equation 2`
unfoldable pub unsettled_line : Network → State → Place2 → List ℕ
unsettled_line n s f =
    line (codes "unsettled: " ++ place_part n s f.router f.prefix ++ unsettled_part n f)

-- `router r1 link a: `, by their numbers
abbrev pub interface_part : Network → ℕ → ℕ → List ℕ
interface_part n r l =
    codes "router " ++ name_of n.routers r ++ codes " link " ++ name_of n.links l ++ codes ": "

-- what a trouble is about: an interface, or a place
abbrev pub subject_part : Network → State → Unclear → List ℕ
subject_part n s (NotHeard r l) = interface_part n r l
subject_part n s (TwoMetrics r p) = place_part n s r p
subject_part n s (Missing r p l) = place_part n s r p
subject_part n s (ShownOn r p l) = place_part n s r p
subject_part n s (TwoWays r p) = place_part n s r p

-- the router, the prefix and the link of a trouble are known
abbrev pub IsKnownTrouble : Network → State → Unclear → Type 0
IsKnownTrouble n s (NotHeard r l) = (r < length n.routers) × (l < length n.links)
IsKnownTrouble n s (TwoMetrics r p) = (r < length n.routers) × (p < length s.prefixes)
IsKnownTrouble n s (Missing r p l) =
    (r < length n.routers) × (p < length s.prefixes) × (l < length n.links)
IsKnownTrouble n s (ShownOn r p l) =
    (r < length n.routers) × (p < length s.prefixes) × (l < length n.links)
IsKnownTrouble n s (TwoWays r p) = (r < length n.routers) × (p < length s.prefixes)

-- `unclear: router r1 link a: not heard`, or a place and why its route can't be read
unfoldable pub unclear_line : Network → State → Unclear → List ℕ
unclear_line n s trouble =
    line (codes "unclear: " ++ subject_part n s trouble ++ reason_part n trouble)

-- ---- Texts

-- what is written of router r and prefix p: a text of the place there, if it fails
pub data FailingText (n : Network) (s : State) (IsText : Place2 → List ℕ → Type 0) (r p : ℕ)
    : List ℕ → Type 0 where
  fails : (f : Place2) (text : List ℕ) → f.router ≡ r → f.prefix ≡ p → IsFailing n (told n s) f
      → IsText f text → FailingText n s IsText r p text
  holds : IsSound n (told n s) r p → FailingText n s IsText r p []

-- a text of each place that fails, router by router and prefix by prefix
abbrev pub AllFailing : Network → State → (Place2 → List ℕ → Type 0) → List ℕ → Type 0
AllFailing n s IsText = TextsOfPairs (FailingText n s IsText) (length n.routers) (length s.prefixes)

-- the line of a place that fails
abbrev pub UnsettledLine : Network → State → Place2 → List ℕ → Type 0
UnsettledLine n s f text = text ≡ unsettled_line n s f

-- the lines of an unsettled network: that of its first failing place, or those of all
abbrev pub UnsettledLines : Network → State → Bool → Place2 → List ℕ → Type 0
UnsettledLines n s true f = AllFailing n s (UnsettledLine n s)
UnsettledLines n s false f = UnsettledLine n s f

-- what is written of a table: the verdict on what its interfaces tell
pub data VerdictText (n : Network) (s : State) (all : Bool) : Written → Type 0 where
  a_settled : ShowsRightTables n (told n s)
      → VerdictText n s all (record { text = settled_line n s; status = Settled })
  an_unclear : (trouble : Unclear) → IsFirstTrouble n (told n s) trouble
      → VerdictText n s all (record { text = unclear_line n s trouble; status = IsUnclear })
  an_unsettled : (f : Place2) (text : List ℕ) → ShowsTables n (told n s)
      → IsNextUnsettled n (told n s) None f → UnsettledLines n s all f text
      → VerdictText n s all (record { text = text; status = Unsettled })

-- the status of a verdict
abbrev pub verdict_status : Verdict → Status
verdict_status verdicts.Settled = Settled
verdict_status (verdicts.Unsettled f) = Unsettled
verdict_status (verdicts.Unclear trouble) = IsUnclear

-- what is written for the bytes of a plan and the text of a log: what refuses them, or the verdict
-- on the table of the log's records
abbrev pub AuditText : List ℕ → List ℕ → Bool → Written → Type 0
AuditText plan log all = ReportText (λ n s. VerdictText n s all) plan log

-- ---- What the statuses mean

-- the table shows tables in which each metric is the least cost of a path over any neighbours, or
-- 16, and each way begins such a path: right tables of a plan that says nothing of paths beside RFC
-- 2453
abbrev pub ShowsPlainRightTables : Network → State → Type 0
ShowsPlainRightTables n s =
    (T : Tables) × Shows n (told n s) T
    × ((r p : ℕ) → r < length n.routers → p < length s.prefixes → IsPlainRight n r p (T r p))

-- a status is right: Settled exactly where the log shows right tables, and then packets arrive; but
-- for Refused, which says nothing of tables
abbrev pub AnswersRightly : Network → State → Status → Type 0
AnswersRightly n s status = status ≢ Refused →
    ((status ≡ Settled) ↔ ShowsRightTables n (told n s))
    × (status ≡ Settled → PacketsArrive n (told n s))

-- what a verdict's status says of the table
pub record IsJudged (n : Network) (s : State) (status : Status) : Type 0 where
  pub settled : (status ≡ Settled) ↔ ShowsRightTables n (told n s)
  pub arrive : status ≡ Settled → PacketsArrive n (told n s)
  pub unsettled : (status ≡ Unsettled)
      ↔ (ShowsTables n (told n s) × ((f : Place2) × IsNextUnsettled n (told n s) None f))
  pub unclear : (status ≡ IsUnclear) ↔ ((trouble : Unclear) × IsFirstTrouble n (told n s) trouble)
  pub no_tables : (status ≡ IsUnclear) ↔ (ShowsTables n (told n s) → ⊥)
