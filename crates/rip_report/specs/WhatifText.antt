-- What `whatif` prints.
use Rattle.std.specs.Prelude.{◌≡◌, ℕ, nat_lt, if◌then◌else◌, Bool, true, false, List, [], ◌++◌, length, codes, decimal}
use Rattle.rip_plan.specs.Network.{Network}
use Rattle.rip_check.specs.Expected.{IsCount}
use Rattle.rip_check.specs.Impacts.{IsImpact}
use Rattle.rip_check.specs.Losses.{IsGone, IsLost, Loses}
use Rattle.rip_check.specs.declared.aftermath.Impact.{Impact}
use Rattle.rip_check.specs.declared.aftermath.Losses.{Losses}
use Rattle.rip_check.specs.declared.failures.Failure.{Failure}
use Rattle.rip_check.specs.declared.failures.Failure.TheVariants.{Link, Router}
use Rattle.rip_report.specs.Listings.{TextsBelow, TextsOfPairs}
use Rattle.rip_report.specs.Names.{name_of}
use Rattle.rip_report.specs.PlanText.{prefix_of}
use Rattle.rip_report.specs.Written.{Written, line}
use Rattle.rip_report.specs.declared.status.Status.TheVariants.{Done}
use Rattle.rip_report.specs.declared.whatif.Kind.{Kind}
use Rattle.rip_report.specs.declared.whatif.Kind.TheVariants.{Links, Routers}

-- `9 links, 8 routers`
abbrev pub failures_part : ℕ → ℕ → List ℕ
failures_part links routers =
    decimal links ++ codes " links, " ++ decimal routers ++ codes " routers"

-- `whatif: 9 links, 8 routers`
unfoldable pub whatif_line : Network → List ℕ
whatif_line n = line (codes "whatif: " ++ failures_part (length n.links) (length n.routers))

-- `losing: 3 links, 2 routers`
unfoldable pub losing_line : ℕ → ℕ → List ℕ
losing_line links routers = line (codes "losing: " ++ failures_part links routers)

-- `link core`, or `router r1`
abbrev pub failed_part : Network → Failure → List ℕ
failed_part n (Link l) = codes "link " ++ name_of n.links l
failed_part n (Router r) = codes "router " ++ name_of n.routers r

-- `, up to 10`, where some pairs go a longer way: the greatest metric of these
abbrev pub farthest_part : Impact → List ℕ
farthest_part i = if nat_lt 0 i.longer then codes ", up to " ++ decimal i.farthest else []

-- `, most lost by r8, 7`, where some pairs are lost
abbrev pub hit_part : Network → Impact → List ℕ
hit_part n i =
    if nat_lt 0 i.lost
    then codes ", most lost by " ++ name_of n.routers i.hardest_hit ++ codes ", "
    ++ decimal i.most_lost
    else []

-- `link core: 14 lost, 1 gone, 30 longer, up to 10, most lost by r8, 7`
unfoldable pub failure_line : Network → Failure → Impact → List ℕ
failure_line n f i =
    line (failed_part n f ++ codes ": " ++ decimal i.lost ++ codes " lost, " ++ decimal i.gone
    ++ codes " gone, " ++ decimal i.longer ++ codes " longer" ++ farthest_part i
    ++ hit_part n i)

-- `  lost r8 10.7.0.0/16`
unfoldable pub lost_line : Network → ℕ → ℕ → List ℕ
lost_line n r p = line (codes "  lost " ++ name_of n.routers r ++ codes " " ++ prefix_of n p)

-- `  gone 10.9.0.0/16`
unfoldable pub gone_line : Network → ℕ → List ℕ
gone_line n p = line (codes "  gone " ++ prefix_of n p)

-- the line of a router and a prefix, where the router loses it
pub data LostLine (n : Network) (f : Failure) (r p : ℕ) : List ℕ → Type 0 where
  lost : IsLost n f r p → LostLine n f r p (lost_line n r p)
  not_lost : (IsLost n f r p → ⊥) → LostLine n f r p []

-- the line of a prefix, where it is gone
pub data GoneLine (n : Network) (f : Failure) (p : ℕ) : List ℕ → Type 0 where
  gone : IsGone n f p → GoneLine n f p (gone_line n p)
  not_gone : (IsGone n f p → ⊥) → GoneLine n f p []

-- what stands under the line of a failure where all is asked for: what is lost, by router and
-- prefix, and then what is gone
abbrev pub UnderText : Network → Failure → Bool → List ℕ → Type 0
UnderText n f false text = text ≡ []
UnderText n f true text =
    (lost gone : List ℕ) × TextsOfPairs (LostLine n f) (length n.routers) (length n.prefixes) lost
    × TextsBelow (GoneLine n f) (length n.prefixes) gone × (text ≡ lost ++ gone)

-- the same of the losses of a failure: the line of a router and a prefix, the lines of a router, and
-- the line of a prefix
abbrev pub LineOfLost : Losses → ℕ → ℕ → List ℕ → Type 0
LineOfLost l = LostLine l.plan.now l.failure

abbrev pub LinesOfLost : Losses → ℕ → List ℕ → Type 0
LinesOfLost l r = TextsBelow (LineOfLost l r) (length l.plan.now.prefixes)

abbrev pub LineOfGone : Losses → ℕ → List ℕ → Type 0
LineOfGone l = GoneLine l.plan.now l.failure

-- the lines of a failure
pub record FailureText (n : Network) (all : Bool) (f : Failure) (text : List ℕ) : Type 0 where
  pub impact : Impact
  pub under : List ℕ
  pub costs : IsImpact n f impact
  pub told : UnderText n f all under
  pub whole : text ≡ failure_line n f impact ++ under

-- the counts, the lines of the failure of each link and of each router, and how many of them lose
-- something
pub data FailureTexts (all : Bool) (n : Network) : Written → Type 0 where
  failure_texts : (links routers : List ℕ) (losing_links losing_routers : ℕ)
      → TextsBelow (λ l. FailureText n all (Link l)) (length n.links) links
      → TextsBelow (λ r. FailureText n all (Router r)) (length n.routers) routers
      → IsCount (λ l. Loses n (Link l)) (length n.links) losing_links
      → IsCount (λ r. Loses n (Router r)) (length n.routers) losing_routers
      → FailureTexts all n (record {
        text = whatif_line n ++ (links ++ (routers ++ losing_line losing_links losing_routers));
        status = Done;
      })

-- the failure of one of a kind, by its number, how many there are, what is printed of one, and that
-- its failure loses something
abbrev pub failure_of : Kind → ℕ → Failure
failure_of Links k = Link k
failure_of Routers k = Router k

abbrev pub count_of : Network → Kind → ℕ
count_of n Links = length n.links
count_of n Routers = length n.routers

abbrev pub OneText : Network → Bool → Kind → ℕ → List ℕ → Type 0
OneText n all kind k = FailureText n all (failure_of kind k)

abbrev pub LosesOne : Network → Kind → ℕ → Type 0
LosesOne n kind k = Loses n (failure_of kind k)
