use Rattle.std.proofs.Common.{◌≡◌, Some, get_or, sym, ◌∙◌, arith}
use Rattle.std.proofs.lemmas.Option.{slice_get-get_or}
use Rattle.rip_wire.specs.Prefix.{block}
use Rattle.rip_check.specs.Cases.{network_of}
use Rattle.rip_check.specs.Metrics.{metric_at}
use Rattle.rip_check.proofs.OwnedLemmas.{its_link}
use Rattle.rip_check.proofs.case.Case.offer.Goals as goal

pub returns-in-Some : goal.returns-in-Some
returns-in-Some g c = λ s d at.
    let own = c.args.own in
    let across = c.requires.across in
    let same : across.0 ≡ s = (its_link (network_of c.args.self.now) c.args.across across.0 own.link across.1 s own.link d across.2 at).0 in
    let s = g.T.Table.state c.args.self.now.table.now in
    let p = c.args.self.now.prefix in
    let listed = slice_get-get_or s.prefixes p (block 0 0) c.args.self.now.within in
    let shows : metric_at s c.args.across p ≡ Some c.in-Some.metric = rw listed (sym (c.metric.ensures (get_or s.prefixes p (block 0 0)) listed) ∙ c.in-Some.is) in
    record {
      neighbour = record { other = λ mine. across.3 (same ∙ mine); here = (own.cost, c.requires.own); there = (d, (c.args.across, at)) };
      cost = own.cost;
      here = c.requires.own;
      interface = c.args.across;
      its_cost = d;
      there = at;
      value = rw shows (omega (arith, c.plus.ensures));
    }
