use Rattle.std.proofs.Common.{◌≡◌, ℕ, inl, inr, Contains, Some, slice_get, sym, subst, ap, ◌∙◌, arith}
use Rattle.std.proofs.lemmas.Bool.{cases_lt}
use Rattle.std.proofs.lemmas.Bool.Decides.{not_from_Decides}
use Rattle.std.proofs.lemmas.Option.{slice_get-get_or}
use Rattle.rip_routes.specs.OwnTables.{route_at}
use Rattle.rip_routes.specs.declared.next_hop.NextHop.{NextHop}
use Rattle.rip_check.specs.Cases.{network_of, plan_of, told_in}
use Rattle.rip_check.specs.OwnSettled.{IsHopGiven}
use Rattle.rip_check.specs.OwnVerdicts.{IsWrongHop}
use Rattle.rip_check.proofs.own_audit.first_wrong_hop.Goals as goal

pub returns-then-not-is_hop_given-clause-some : goal.returns-then-not-is_hop_given-clause-some
returns-then-not-is_hop_given-clause-some g c =
    let case = c.args.case.now in
    let route = route_at (g.G.RouteTables.tables c.args.tables.now) c.args.router case.prefix in
    let hops = c.next_hops-hops.result.now in
    let k = c.loop-hop.hop-index in
    let hop = c.hop-item.result in
    let is : slice_get hops k ≡ Some hop = slice_get-get_or hops k hop c.loop-hop-test.true ∙ ap Some (sym c.hop-item.is) in
    let listed : slice_get route.hops k ≡ Some hop = rw c.next_hops-hops.ensures at is in
    record {
      number = k;
      hop = hop;
      listed = listed;
      fails = λ given. not_from_Decides c.is_hop_given.result c.is_hop_given.ensures c.if-not-is_hop_given.true
          (subst (λ (m : ℕ). IsHopGiven (network_of case) (told_in case) c.args.router case.prefix m hop) (sym c.requires.metric) given);
      before = λ j h less there.
          let there' : slice_get hops j ≡ Some h = rw c.next_hops-hops.ensures there in
          subst (λ (m : ℕ). IsHopGiven (network_of case) (told_in case) c.args.router case.prefix m h) c.requires.metric (c.loop-hop.invariant j h less there');
      wrong = subst (λ (m : ℕ). IsWrongHop (plan_of case) (told_in case) c.args.router case.prefix m hop c.wrong_hop.result) c.requires.metric c.wrong_hop.ensures;
    }

pub loop-hop-preserved : goal.loop-hop-preserved
loop-hop-preserved g c = λ j h less there.
    let case = c.args.case.now in
    let hops = c.next_hops-hops.result.now in
    let k = c.loop-hop.hop-index in
    let hop = c.hop-item.result in
    let is : slice_get hops k ≡ Some hop = slice_get-get_or hops k hop c.loop-hop-test.true ∙ ap Some (sym c.hop-item.is) in
    elim (cases_lt j k) [
      | inl sooner ↦ c.loop-hop.invariant j h sooner there
      | inr late ↦
          let same : j ≡ k = omega (arith, less, late) in
          let there' : slice_get hops k ≡ Some h = rw same at there in
          let one : hop ≡ h = cc (is, there') in
          subst (λ (x : NextHop). IsHopGiven (network_of case) (told_in case) c.args.router case.prefix c.args.metric x) one (c.is_hop_given.ensures.0 c.if-not-is_hop_given.false)
    ]

pub returns-clause-none : goal.returns-clause-none
returns-clause-none g c = λ h listed.
    let hops = c.next_hops-hops.result.now in
    let listed' : Contains hops h = rw c.next_hops-hops.ensures listed in
    c.loop-hop.invariant listed'.0 h (omega (arith, listed'.1, c.loop-hop-test.false)) (slice_get-get_or hops listed'.0 h listed'.1 ∙ ap Some listed'.2)
