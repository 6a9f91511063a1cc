use Rattle.std.proofs.Common.{◌≡◌, arith}
use Rattle.std.proofs.lemmas.List.{length-map}
use Rattle.rip_plan.specs.Network.{numbers_where, is_on}
use Rattle.rip_plan.proofs.BelowLemmas.{kept_at, kept_within, rising}
use Rattle.rip_plan.proofs.LookupLemmas.{on_link_gives, on_link_finds}
use Rattle.rip_plan.proofs.plan.Plan.on_link.Goals as goal

pub index-requires : goal.index-requires
index-requires c = grind (arith, length-map, kept_within)

pub returns : goal.returns
returns c =
    let value : c.as_slice.result.now ≡ numbers_where (is_on c.args.link) 0 c.args.self.now.interfaces = grind (arith, length-map, kept_at) in
    record {
      exact = λ i. rw value (on_link_gives c.args.self.now c.args.link i, λ h. on_link_finds c.args.self.now c.args.link i h.0 h.1 h.2);
      ascending = rw value (rising (is_on c.args.link) 0 c.args.self.now.interfaces);
      value = value;
    }
