use Rattle.std.proofs.Common.{◌≡◌, refl, sym, ◌∙◌, ap}
use Rattle.std.proofs.lemmas.Option.{same_Some, slice_get_within}
use Rattle.rip_plan.specs.declared.parts.Interface.{Interface}
use Rattle.rip_plan.proofs.plan.Plan.interface_on.Goals as goal

pub interface-requires : goal.interface-requires
interface-requires c =
    let (cost, is) = (c.in-Some.ensures c.in-Some.number).0 refl in
    slice_get_within c.args.self.now.interfaces _ is.interface is.listed

pub returns-in-Some : goal.returns-in-Some
returns-in-Some c =
    let (cost, is) = (c.in-Some.ensures c.in-Some.number).0 refl in
    let same : c.interface.result ≡ is.interface = same_Some _ _ (sym c.interface.ensures.exact ∙ is.listed) in
    record {
      some = (ap (λ (x : Interface). x.router) same ∙ is.router, ap (λ (x : Interface). x.link) same ∙ is.link, (c.in-Some.number, c.interface.ensures.is));
      none = tt;
      is = (c.in-Some.number, c.interface.ensures.exact);
    }

pub returns-in-None : goal.returns-in-None
returns-in-None c = record { some = tt; is = tt; none = λ (cost, (i, is)). cc ((c.in-None.ensures i).1 (cost, is)) }
