-- What is known of the places of the routers' own tables that do not hold, and what is told of tables.
use Rattle.std.proofs.Common.{◌≡◌, ℕ, ◌<◌, inl, inr, Contains, None, Result, Ok, Err, IfOk, length, ap, subst, arith}
use Rattle.std.proofs.lemmas.Option.{get_or_from_slice_get, slice_get_within}
use Rattle.rip_plan.specs.Network.{Network}
use Rattle.rip_plan.specs.Relations.{IsLawful}
use Rattle.rip_table.specs.State.{State}
use Rattle.rip_routes.specs.OwnTables.{FitsOwn, OwnTables, route_at}
use Rattle.rip_routes.specs.declared.next_hop.NextHop.{NextHop}
use Rattle.rip_routes.specs.declared.next_hop.NextHop.TheVariants.{Over, Via}
use Rattle.rip_check.specs.Networks.{block_at}
use Rattle.rip_check.specs.OwnTells.{IsToldBy}
use Rattle.rip_check.specs.OwnVerdicts.{IsNextWrong, IsOwnFailing, IsWrong, IsWrongHop}
use Rattle.rip_check.specs.declared.own_verdict.OwnPlace.{OwnPlace}
use Rattle.rip_check.specs.declared.own_verdict.Wrong.{Wrong}
use Rattle.rip_check.proofs.HolderLemmas.{holder_known, holder_on}
use Rattle.rip_check.proofs.OwnRouteLemmas.{goes_over}
use Rattle.rip_report.specs.OwnText.{IsKnownOwn, IsKnownWrong, IsOwnJudged, JudgesRightly}
use Rattle.rip_report.specs.declared.status.Status.{Status}
use Rattle.rip_report.specs.declared.status.Status.TheVariants.{Refused}
use Rattle.rip_report.specs.declared.status.RunError.{RunError}

module _ (n : Network) (s : State) (t : OwnTables) (plan : IsLawful n) (fits : FitsOwn n t) where
  -- a next hop is over a known link
  pub known_hop : (r p l : ℕ) → Contains (route_at t r p).hops (Over l) → l < length n.links
  known_hop r p l listed =
      let on = goes_over n t fits r p l listed in
      plan.link_known on.1.0 r l on.0 on.1.1

  known_wrong_hop : (r p m : ℕ) (h : NextHop) (w : Wrong) → r < length n.routers → Contains (route_at t r p).hops h → IsWrongHop n s r p m h w → IsKnownWrong n w
  known_wrong_hop r p m (Over l) w lt listed is = rw is (known_hop r p l listed)
  known_wrong_hop r p m (Via a) w lt listed (inl h) =
      let b = block_at s.prefixes p in
      let holder = h.2.lacking.holder in
      let (i, c, its) = holder_on n plan b r h.0 h.1 a lt holder in
      rw h.3 (holder_known n plan b r h.0 a h.1 lt holder, plan.link_known i r h.0 c its)
  known_wrong_hop r p m (Via a) w lt listed (inr (offers, inl h)) =
      let there = h.2.had.there.0 in
      rw h.3 (plan.router_known h.2.across h.1 h.0 there.0 there.1, plan.link_known h.2.across h.1 h.0 there.0 there.1)
  known_wrong_hop r p m (Via a) w lt listed (inr (offers, inr h)) = rw h.1 tt

  known_wrong : (r p : ℕ) (w : Wrong) → r < length n.routers → IsWrong n s r p (route_at t r p) w → IsKnownWrong n w
  known_wrong r p w lt (inl h) = rw h.3 tt
  known_wrong r p w lt (inr (choice, inl own)) = rw own.2 tt
  known_wrong r p w lt (inr (choice, inr (here, wrong))) =
      let hops = (route_at t r p).hops in
      let listed : Contains hops wrong.hop = (wrong.number, slice_get_within hops wrong.number wrong.hop wrong.listed, get_or_from_slice_get hops wrong.number wrong.hop wrong.hop wrong.listed) in
      known_wrong_hop r p (route_at t r p).metric wrong.hop w lt listed wrong.wrong

  -- a place that does not hold
  pub known_own : (f : OwnPlace) → f.router < length n.routers → f.prefix < length s.prefixes → IsOwnFailing n s t f → IsKnownOwn n s f
  known_own f router prefix failing = record { router = router; prefix = prefix; wrong = known_wrong f.router f.prefix f.wrong router failing.wrong }

  pub known_first : IsToldBy n t s → (f : OwnPlace) → IsNextWrong n s t None f → IsKnownOwn n s f
  known_first told f next = known_own f next.first.router (omega (arith, next.first.prefix, ap length told.prefixes)) next.values

-- the verdict is on the tables that are told
pub judged_told : (n : Network) (t u : OwnTables) (answer : Result Status RunError) → t ≡ u → IfOk answer (IsOwnJudged n t) → IfOk answer (JudgesRightly n u)
judged_told n t u (Ok status) same judged = λ not_refused. subst (λ t. IsOwnJudged n t status) same judged
judged_told n t u (Err e) same judged = tt

-- who is refused says nothing of tables
pub judges_nothing : (n : Network) (t : OwnTables) (answer : Result Status RunError) → IfOk answer (λ status. status ≡ Refused) → IfOk answer (JudgesRightly n t)
judges_nothing n t (Ok status) is = λ other. absurd (other is)
judges_nothing n t (Err e) is = tt
