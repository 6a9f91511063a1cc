-- What `explain` prints.
use Rattle.std.specs.Prelude.{◌≡◌, ℕ, ◌<◌, nat_lt, Bool, true, false, if◌then◌else◌, IsTrue, List, [], ◌++◌, length, codes, decimal, Decides, Option, None, Some, slice_get}
use Rattle.std.specs.List.{flat_map}
use Rattle.rip_plan.specs.Network.{Network, is_of, is_on, numbers_where}
use Rattle.rip_plan.specs.Relations.{Exchanges, IsDirect, IsInterface, IsKept}
use Rattle.rip_plan.specs.declared.parts.Interface.{Interface}
use Rattle.rip_table.specs.State.{State}
use Rattle.rip_check.specs.Firsts.{CanBeRead, IsCause, IsFirstTrouble}
use Rattle.rip_check.specs.Networks.{block_at, network_at}
use Rattle.rip_check.specs.Laws.{ShowsRightTables}
use Rattle.rip_check.specs.Metrics.{metric_at}
use Rattle.rip_check.specs.Paths.{IsLeast}
use Rattle.rip_check.specs.Tables.{Offers, Route}
use Rattle.rip_check.specs.Told.{told}
use Rattle.rip_check.specs.Verdicts.{IsNextUnsettled, ShowsTables}
use Rattle.rip_check.specs.declared.verdict.Place2.{Place2}
use Rattle.rip_check.specs.declared.verdict.Unclear.{Unclear}
use Rattle.rip_check.specs.declared.verdict.Unclear.TheVariants.{NotHeard, TwoMetrics, Missing, ShownOn, TwoWays}
use Rattle.rip_report.specs.AuditText.{AllFailing, VerdictText, settled_line, unclear_line, unsettled_line}
use Rattle.rip_report.specs.Lines.{read_part}
use Rattle.rip_report.specs.Listings.{TextsBelow, TextsOf, TextsOfPairs}
use Rattle.rip_report.specs.Names.{name_of, prefix_name}
use Rattle.rip_report.specs.Written.{Written, line}
use Rattle.rip_report.specs.declared.status.Status.TheVariants.{Settled, Unsettled, Unclear as IsUnclear}

-- ---- Lines

-- `2`, or `nothing`
abbrev pub shown_word : Option ℕ → List ℕ
shown_word None = codes "nothing"
shown_word (Some m) = decimal m

-- `  shown on a: 2`, or `  shown on a: nothing`
unfoldable pub shown_line : Network → ℕ → Option ℕ → List ℕ
shown_line n l shown =
    line (codes "  shown on " ++ name_of n.links l ++ codes ": " ++ shown_word shown)

-- `  read: 2 over a`
unfoldable pub read_route_line : Network → Route → Bool → List ℕ
read_route_line n route hidden = line (codes "  read: " ++ read_part n route hidden)

-- `  direct: 1`, or `  direct: 7, kept`
unfoldable pub direct_line : ℕ → Bool → List ℕ
direct_line cost kept =
    line (codes "  direct: " ++ decimal cost ++ (if kept then codes ", kept" else []))

-- `1 + 2 = 3`: the cost, what is shown, and what is offered; or `nothing`
abbrev pub sum_part : ℕ → Option ℕ → ℕ → List ℕ
sum_part cost None value = codes "nothing"
sum_part cost (Some m) value =
    decimal cost ++ codes " + " ++ decimal m ++ codes " = " ++ decimal value

-- `  offer over a from r2: 1 + 2 = 3`
unfoldable pub offer_line : Network → Interface → ℕ → Option ℕ → ℕ → List ℕ
offer_line n own r shown value =
    line (codes "  offer over " ++ name_of n.links own.link ++ codes " from "
    ++ name_of n.routers r ++ codes ": " ++ sum_part own.cost shown value)

-- `, not in the plan`, of a prefix that is not planned
abbrev pub unplanned_part : Network → ℕ → List ℕ
unplanned_part n p = if nat_lt p (length n.prefixes) then [] else codes ", not in the plan"

-- `  least: 2`, or `  least: 16, not in the plan`
unfoldable pub least_line : Network → ℕ → ℕ → List ℕ
least_line n p least = line (codes "  least: " ++ decimal least ++ unplanned_part n p)

-- `  heard on b: r2`
unfoldable pub heard_line : Network → Interface → List ℕ
heard_line n i =
    line (codes "  heard on " ++ name_of n.links i.link ++ codes ": " ++ name_of n.routers i.router)

-- `  heard on b: none`
unfoldable pub none_heard_line : Network → ℕ → List ℕ
none_heard_line n l = line (codes "  heard on " ++ name_of n.links l ++ codes ": none")

-- `  unreachable: router r1 prefix 10.2.0.0/16`
unfoldable pub unreachable_line : Network → State → ℕ → ℕ → List ℕ
unreachable_line n s r p =
    line (codes "  unreachable: router " ++ name_of n.routers r ++ codes " prefix "
    ++ prefix_name s p)

-- ---- What a place comes from

-- the numbers of a router's interfaces
abbrev pub numbers_of : Network → ℕ → List ℕ
numbers_of n r = numbers_where (is_of r) 0 n.interfaces

-- the numbers of the interfaces on a link
abbrev pub numbers_on : Network → ℕ → List ℕ
numbers_on n l = numbers_where (is_on l) 0 n.interfaces

-- what the interface of a number shows of prefix p
pub data ShownLine (n : Network) (s : State) (p i : ℕ) : List ℕ → Type 0 where
  shown : (x : Interface) → slice_get n.interfaces i ≡ Some x
      → ShownLine n s p i (shown_line n x.link (metric_at s i p))

-- what each interface of router r shows of prefix p
abbrev pub ShownLines : Network → State → ℕ → ℕ → List ℕ → Type 0
ShownLines n s r p = TextsOf (ShownLine n s p) (numbers_of n r)

-- what the router of interface j offers over the link of a router's own interface, if it is another
pub data OfferLine (n : Network) (s : State) (own : Interface) (p j : ℕ) : List ℕ → Type 0 where
  an_offer : (x : Interface) (value : ℕ) → slice_get n.interfaces j ≡ Some x
      → Offers (network_at n s.prefixes p) s own.router own.link x.router p value
      → OfferLine n s own p j (offer_line n own x.router (metric_at s j p) value)
  its_own : (x : Interface) → slice_get n.interfaces j ≡ Some x → x.router ≡ own.router
      → OfferLine n s own p j []

-- what is offered over the link of a router's interface, by its number, if the link exchanges the
-- prefix
pub data OffersOver (n : Network) (s : State) (p i : ℕ) : List ℕ → Type 0 where
  offers : (own : Interface) (text : List ℕ) → slice_get n.interfaces i ≡ Some own
      → Exchanges n own.link (block_at s.prefixes p)
      → TextsOf (OfferLine n s own p) (numbers_on n own.link) text → OffersOver n s p i text
  closed : (own : Interface) → slice_get n.interfaces i ≡ Some own
      → (Exchanges n own.link (block_at s.prefixes p) → ⊥) → OffersOver n s p i []

-- all that is offered to router r
abbrev pub OfferLines : Network → State → ℕ → ℕ → List ℕ → Type 0
OfferLines n s r p = TextsOf (OffersOver n s p) (numbers_of n r)

-- the cost at which router r has prefix p itself, if it does
pub data DirectLine (n : Network) (r p : ℕ) : List ℕ → Type 0 where
  direct : (c : ℕ) (kept : Bool) → IsDirect n r p c → Decides kept (IsKept n r p)
      → DirectLine n r p (direct_line c kept)
  not_direct : ((c : ℕ) → IsDirect n r p c → ⊥) → DirectLine n r p []

-- the line of a place that does not hold, and under it what the place comes from
pub record PlaceLines (n : Network) (s : State) (f : Place2) (text : List ℕ) : Type 0 where
  pub shown : List ℕ
  pub direct : List ℕ
  pub offers : List ℕ
  pub least : ℕ
  pub shown_lines : ShownLines n s f.router f.prefix shown
  pub direct_line : DirectLine n f.router f.prefix direct
  pub offer_lines : OfferLines n s f.router f.prefix offers
  pub is_least : IsLeast (network_at n n.prefixes f.prefix) f.prefix f.router least
  pub whole : text ≡ unsettled_line n s f ++ (shown
      ++ (read_route_line n (record { metric = f.metric; way = f.way }) f.hidden
      ++ (direct ++ (offers ++ least_line n f.prefix least))))

-- ---- What a trouble comes from

-- the interface of a number, if it was heard
pub data HeardLine (n : Network) (s : State) (i : ℕ) : List ℕ → Type 0 where
  heard : (x : Interface) → slice_get n.interfaces i ≡ Some x → IsTrue (s.heard i)
      → HeardLine n s i (heard_line n x)
  not_heard : (IsTrue (s.heard i) → ⊥) → HeardLine n s i []

-- the interfaces on link l that were heard, or that none was
pub data HeardLines (n : Network) (s : State) (l : ℕ) : List ℕ → Type 0 where
  some : (i r c : ℕ) (text : List ℕ) → IsInterface n i r l c → IsTrue (s.heard i)
      → TextsOf (HeardLine n s) (numbers_on n l) text → HeardLines n s l text
  none : ((i r c : ℕ) → IsInterface n i r l c → IsTrue (s.heard i) → ⊥)
      → HeardLines n s l (none_heard_line n l)

-- what is under the line of a trouble
abbrev pub UnderTrouble : Network → State → Unclear → List ℕ → Type 0
UnderTrouble n s (NotHeard r l) = HeardLines n s l
UnderTrouble n s (TwoMetrics r p) = ShownLines n s r p
UnderTrouble n s (Missing r p l) = ShownLines n s r p
UnderTrouble n s (ShownOn r p l) = ShownLines n s r p
UnderTrouble n s (TwoWays r p) = ShownLines n s r p

-- the line of a trouble, and under it what it comes from
pub record TroubleLines (n : Network) (s : State) (trouble : Unclear) (text : List ℕ) : Type 0 where
  pub under : List ℕ
  pub lines : UnderTrouble n s trouble under
  pub whole : text ≡ unclear_line n s trouble ++ under

-- the lines of the interface of a number, if it was not heard
pub data UnheardLines (n : Network) (s : State) (i : ℕ) : List ℕ → Type 0 where
  unheard : (x : Interface) (text : List ℕ) → slice_get n.interfaces i ≡ Some x
      → (IsTrue (s.heard i) → ⊥) → TroubleLines n s (NotHeard x.router x.link) text
      → UnheardLines n s i text
  is_heard : IsTrue (s.heard i) → UnheardLines n s i []

-- the lines of router r and prefix p, if no route can be read there
pub data UnreadLines (n : Network) (s : State) (r p : ℕ) : List ℕ → Type 0 where
  unread : (trouble : Unclear) (text : List ℕ) → (CanBeRead n (told n s) r p → ⊥)
      → IsCause n (told n s) r p trouble → TroubleLines n s trouble text
      → UnreadLines n s r p text
  readable : CanBeRead n (told n s) r p → UnreadLines n s r p []

-- ---- Texts

-- the line of router r and prefix p, where the prefix is planned and no path costs less than 16
pub data UnreachableLine (n : Network) (s : State) (r p : ℕ) : List ℕ → Type 0 where
  unreachable : p < length n.prefixes → IsLeast (network_at n n.prefixes p) p r 16
      → UnreachableLine n s r p (unreachable_line n s r p)
  reachable : (p < length n.prefixes → IsLeast (network_at n n.prefixes p) p r 16 → ⊥)
      → UnreachableLine n s r p []

-- an unsettled network: its first place that does not hold, or all of them
abbrev pub UnsettledText : Network → State → Bool → Place2 → List ℕ → Type 0
UnsettledText n s true f = AllFailing n s (PlaceLines n s)
UnsettledText n s false f = PlaceLines n s f

-- all places of which no route can be read
abbrev pub AllUnread : Network → State → List ℕ → Type 0
AllUnread n s = TextsOfPairs (UnreadLines n s) (length n.routers) (length s.prefixes)

-- all troubles of the kind of the first: interfaces that were not heard, or places
abbrev pub AllTroubles : Network → State → Unclear → List ℕ → Type 0
AllTroubles n s (NotHeard r l) = TextsBelow (UnheardLines n s) (length n.interfaces)
AllTroubles n s (TwoMetrics r p) = AllUnread n s
AllTroubles n s (Missing r p l) = AllUnread n s
AllTroubles n s (ShownOn r p l) = AllUnread n s
AllTroubles n s (TwoWays r p) = AllUnread n s

-- a log that shows no tables: the first trouble, or all of its kind
abbrev pub UnclearText : Network → State → Bool → Unclear → List ℕ → Type 0
UnclearText n s true trouble = AllTroubles n s trouble
UnclearText n s false trouble = TroubleLines n s trouble

-- the verdict, and what it comes from
pub data ExplainText (n : Network) (s : State) (all : Bool) : Written → Type 0 where
  a_settled : (lines : List ℕ) → ShowsRightTables n (told n s)
      → TextsOfPairs (UnreachableLine n s) (length n.routers) (length s.prefixes) lines
      → ExplainText n s all (record { text = settled_line n s ++ lines; status = Settled })
  an_unclear : (trouble : Unclear) (text : List ℕ) → IsFirstTrouble n (told n s) trouble
      → UnclearText n s all trouble text
      → ExplainText n s all (record { text = text; status = IsUnclear })
  an_unsettled : (f : Place2) (text : List ℕ) → ShowsTables n (told n s)
      → IsNextUnsettled n (told n s) None f → UnsettledText n s all f text
      → ExplainText n s all (record { text = text; status = Unsettled })

-- a text whose first line is the verdict's, as `audit` prints it
abbrev pub BeginsWithVerdict : Network → State → Written → Type 0
BeginsWithVerdict n s w =
    (verdict rest : List ℕ) × VerdictText n s false (record { text = verdict; status = w.status })
    × (w.text ≡ verdict ++ rest)

-- these lines are those of some places, and the text has each of them with what comes under it
abbrev pub Explains : Network → State → List ℕ → List ℕ → Type 0
Explains n s lines text =
    (places : List (Place2 × List ℕ)) × (lines ≡ flat_map (λ f. unsettled_line n s f.0) places)
    × (text ≡ flat_map (λ f. unsettled_line n s f.0 ++ f.1) places)

-- of an unsettled network a text with the lines of `audit --all`, and what comes under each
abbrev pub ExplainsAll : Network → State → Written → Type 0
ExplainsAll n s w =
    w.status ≡ Unsettled
    → (lines : List ℕ) × VerdictText n s true (record { text = lines; status = Unsettled })
    × Explains n s lines w.text
