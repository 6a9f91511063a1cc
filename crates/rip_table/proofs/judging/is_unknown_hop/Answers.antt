use Rattle.std.proofs.Common.{not, ◌||◌, ap, sym, ◌∙◌}
use Rattle.rip_table.specs.Joined.{knows_gateway}
use Rattle.rip_table.proofs.HopLemmas.{address_decided, gateway_decided}
use Rattle.rip_table.proofs.judging.is_unknown_hop.Goals as goal

pub returns-then-not-has_address : goal.returns-then-not-has_address
returns-then-not-has_address c =
    let n = c.args.plan.now in
    let own = c.interface-own.result in
    let held = sym c.if-not-has_address.true ∙ address_decided n c.args.interface own.router own.link own.cost c.args.hop c.has_address.result c.interface-own.ensures.is
    (c.has_address.ensures own.router own.link own.cost c.interface-own.ensures.is) in
    let known = gateway_decided n c.args.interface own.router own.link own.cost c.args.prefix c.args.hop c.is_gateway.result c.interface-own.ensures.is c.is_gateway.ensures.planned
    c.is_gateway.ensures.unplanned in
    ap not known ∙ ap (λ b. not (b || knows_gateway n c.args.interface c.args.prefix c.args.hop)) held

pub returns-else-not-has_address : goal.returns-else-not-has_address
returns-else-not-has_address c =
    let n = c.args.plan.now in
    let own = c.interface-own.result in
    let held = sym c.if-not-has_address.false ∙ address_decided n c.args.interface own.router own.link own.cost c.args.hop c.has_address.result c.interface-own.ensures.is
    (c.has_address.ensures own.router own.link own.cost c.interface-own.ensures.is) in
    ap not c.if-not-has_address.false ∙ ap (λ b. not (b || knows_gateway n c.args.interface c.args.prefix c.args.hop)) held
