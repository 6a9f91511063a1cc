use Rattle.std.proofs.Common.{◌≡◌, arith}
use Rattle.std.proofs.lemmas.List.{length-map}
use Rattle.rip_plan.specs.Network.{numbers_where, is_of}
use Rattle.rip_plan.proofs.BelowLemmas.{kept_at, kept_within, rising}
use Rattle.rip_plan.proofs.LookupLemmas.{of_router_gives, of_router_finds}
use Rattle.rip_plan.proofs.plan.Plan.of_router.Goals as goal

pub index-requires : goal.index-requires
index-requires c = grind (arith, length-map, kept_within)

pub returns : goal.returns
returns c =
    let value : c.as_slice.result.now ≡ numbers_where (is_of c.args.router) 0 c.args.self.now.interfaces = grind (arith, length-map, kept_at) in
    record {
      exact = λ i. rw value (of_router_gives c.args.self.now c.args.router i, λ h. of_router_finds c.args.self.now c.args.router i h.0 h.1 h.2);
      ascending = rw value (rising (is_of c.args.router) 0 c.args.self.now.interfaces);
      value = value;
    }
