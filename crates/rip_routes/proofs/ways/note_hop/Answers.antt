use Rattle.std.proofs.Common.{refl}
use Rattle.rip_routes.proofs.WayLemmas.{with_key}
use Rattle.rip_routes.proofs.ways.note_hop.Goals as goal

pub returns-clause-noted : goal.returns-clause-noted
returns-clause-noted g c =
    with_key _ c.args.ways.now.keys (c.args.router, c.args.k, c.args.hop.now) c.insert.new.self.keys c.in_ok-insert.ensures.updates.0 (λ r k s j l m. refl) (λ r k s j l m. refl) (λ r k s j l m. refl)
    (λ r k s j l m. refl)
