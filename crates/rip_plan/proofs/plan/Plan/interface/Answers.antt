use Rattle.std.proofs.Common.{◌≡◌, ◌<◌, ◌∙◌, Some, ap, length, refl, sym}
use Rattle.std.specs.Prelude.{slice_get}
use Rattle.std.proofs.lemmas.Option.{same_Some, slice_get_read}
use Rattle.rip_plan.specs.declared.parts.Interface.{Interface}
use Rattle.rip_plan.proofs.plan.Plan.interface.Goals as goal

pub returns : goal.returns
returns c =
    let below : c.args.i < length c.self.inside.interfaces.items = rw (← c.self.view_is) at c.requires in
    let listed : slice_get c.self.inside.interfaces.items c.args.i ≡ Some c.index.result.now =
    slice_get_read c.self.inside.interfaces.items (length c.self.inside.interfaces.items) c.args.i c.index.result.now refl below c.index.ensures in
    let here : slice_get c.args.self.now.interfaces c.args.i ≡ Some c.index.result.now = rw (← c.self.view_is) listed in
    let same : (x : Interface) → slice_get c.args.self.now.interfaces c.args.i ≡ Some x → x ≡ c.index.result.now = λ x at. same_Some x c.index.result.now (sym at ∙ here) in
    record {
      exact = here;
      is = record { interface = c.index.result.now; listed = here; router = refl; link = refl; cost = refl };
      connected = record { interface = c.index.result.now; listed = here; router = refl; link = refl; direct = refl };
      poisons = (
        λ on. record { interface = c.index.result.now; listed = here; poisons = on },
        λ is. ap (λ (x : Interface). x.poison) (sym (same is.interface is.listed)) ∙ is.poisons,
      );
    }
