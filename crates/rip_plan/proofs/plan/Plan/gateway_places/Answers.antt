use Rattle.std.proofs.Common.{◌≡◌, arith}
use Rattle.std.proofs.lemmas.List.{length-map}
use Rattle.rip_plan.specs.declared.parts.Seat.TheVariants.{Own}
use Rattle.rip_plan.specs.Network.{has_gateway, numbers_where}
use Rattle.rip_plan.proofs.BelowLemmas.{kept_at, length-each_below, rising}
use Rattle.rip_plan.proofs.LookupLemmas.{gateways_exact}
use Rattle.rip_plan.proofs.plan.Plan.gateway_places.Goals as goal

pub returns-in-Some : goal.returns-in-Some
returns-in-Some c =
    let value : c.as_slice.result.now ≡ numbers_where (has_gateway c.args.prefix) 0 c.args.self.now.places = grind (arith, length-map, length-each_below, kept_at) in
    record {
      exact = gateways_exact c.args.self.now c.args.prefix c.as_slice.result.now value;
      ascending = rw value (rising (has_gateway c.args.prefix) 0 c.args.self.now.places);
    }

pub returns-in-None : goal.returns-in-None
returns-in-None c = record {
  exact = λ k. (λ h. absurd (omega (arith, h.1)), λ h. grind (arith, length-map, length-each_below, c.lawful.ensures.prefix_known k c.args.prefix (Own h.2.own) h.2.place));
  ascending = λ k h. absurd (omega arith);
}
