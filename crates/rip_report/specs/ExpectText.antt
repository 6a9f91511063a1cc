-- What `expect` prints.
use Rattle.std.specs.Prelude.{◌≡◌, ℕ, nat_lt, if◌then◌else◌, List, [], ◌++◌, length, codes, decimal, option_map, slice_get, slice_index, unwrap_or}
use Rattle.rip_plan.specs.Network.{Network, is_of, numbers_where}
use Rattle.rip_check.specs.Expected.{AreUnreachable, IsExpected}
use Rattle.rip_check.specs.Networks.{network_at}
use Rattle.rip_check.specs.declared.way.Way.{Way}
use Rattle.rip_check.specs.declared.way.Way.TheVariants.{Unreachable, Here, Over}
use Rattle.rip_report.specs.Listings.{TextsBelow}
use Rattle.rip_report.specs.Names.{counts_part, name_of, way_text}
use Rattle.rip_report.specs.PlanText.{prefix_of}
use Rattle.rip_report.specs.Written.{Written, line}
use Rattle.rip_report.specs.declared.status.Status.TheVariants.{Done}

-- `, 2 unreachable`, where there are pairs whose least metric is 16
abbrev pub unreachable_part : ℕ → List ℕ
unreachable_part pairs =
    if nat_lt 0 pairs then codes ", " ++ decimal pairs ++ codes " unreachable" else []

-- `expect: 3 routers, 3 prefixes`
unfoldable pub expect_line : Network → ℕ → List ℕ
expect_line n pairs =
    line (codes "expect: " ++ counts_part (length n.routers) (length n.prefixes)
    ++ unreachable_part pairs)

-- `r1 10.2.0.0/16 2 over a`, by the numbers of router and prefix
unfoldable pub route_line : Network → ℕ → ℕ → ℕ → Way → List ℕ
route_line n r p m way =
    line (name_of n.routers r ++ codes " " ++ prefix_of n p ++ codes " " ++ decimal m
    ++ codes " " ++ way_text n way)

-- the line of a way of router r for prefix p, where it is right; nothing where it is not
pub data WayLine (n : Network) (r p : ℕ) (way : Way) : List ℕ → Type 0 where
  right : (m : ℕ) → IsExpected (network_at n n.prefixes p) r p (record { metric = m; way = way })
      → WayLine n r p way (route_line n r p m way)
  other : ((m : ℕ)
      → IsExpected (network_at n n.prefixes p) r p (record { metric = m; way = way }) → ⊥)
      → WayLine n r p way []

-- the link of a router's interface, by its number among the router's interfaces
abbrev pub link_of : Network → ℕ → ℕ → ℕ
link_of n r k =
    unwrap_or (option_map (λ i. i.link)
    (slice_get n.interfaces (slice_index (numbers_where (is_of r) 0 n.interfaces) k))) 0

-- the lines of the ways over the links of a router's interfaces, in order
abbrev pub OverLines : Network → ℕ → ℕ → List ℕ → Type 0
OverLines n r p =
    TextsBelow (λ k. WayLine n r p (Over (link_of n r k)))
    (length (numbers_where (is_of r) 0 n.interfaces))

-- one line for each right route of a router and a prefix: here, over a link, nowhere
pub record PairLines (n : Network) (r p : ℕ) (text : List ℕ) : Type 0 where
  pub here : List ℕ
  pub over : List ℕ
  pub nowhere : List ℕ
  pub here_line : WayLine n r p Here here
  pub over_lines : OverLines n r p over
  pub nowhere_line : WayLine n r p Unreachable nowhere
  pub whole : text ≡ (here ++ over) ++ nowhere

-- the lines of a router, prefix by prefix
abbrev pub RouterLines : Network → ℕ → List ℕ → Type 0
RouterLines n r = TextsBelow (PairLines n r) (length n.prefixes)

-- the counts, and the lines of the right routes, router by router
pub data ExpectedRoutes (n : Network) : Written → Type 0 where
  right_routes : (pairs : ℕ) (lines : List ℕ) → AreUnreachable n pairs
      → TextsBelow (RouterLines n) (length n.routers) lines
      → ExpectedRoutes n (record { text = expect_line n pairs ++ lines; status = Done })
