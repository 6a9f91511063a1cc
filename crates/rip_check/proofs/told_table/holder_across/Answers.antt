use Rattle.std.proofs.Common.{◌≡◌, ℕ, refl, sym, ap, ◌∙◌}
use Rattle.std.proofs.lemmas.Option.{none-some, same_Some, slice_get_within}
use Rattle.rip_plan.specs.declared.parts.Interface.{Interface}
use Rattle.rip_plan.specs.Network.{Network}
use Rattle.rip_plan.specs.Relations.{HasAddress, IsInterface}
use Rattle.rip_check.specs.ToldCells.{HasAddressAcross}
use Rattle.rip_check.proofs.OwnedLemmas.{its_link}
use Rattle.rip_check.proofs.told_table.holder_across.Goals as goal

-- an interface that has an address on a link is there
there : (n : Network) (i l a : ℕ) (x : Interface) → HasAddress n i l a → IsInterface n i x.router x.link x.cost → IsInterface n i x.router l x.cost
there n i l a x (addresses, has, listed) is =
    let same : is.interface ≡ has.interface = same_Some _ _ (sym is.listed ∙ has.listed) in
    let link : x.link ≡ l = sym is.link ∙ ap (λ (y : Interface). y.link) same ∙ has.link in
    rw link at is

pub interface-requires : goal.interface-requires
interface-requires c =
    let has = (c.in-Some.ensures c.in-Some.across).0 refl in
    slice_get_within c.args.plan.now.interfaces c.in-Some.across has.1.interface has.1.listed

pub returns-then-interface-own : goal.returns-then-interface-own
returns-then-interface-own c = λ j. (
  λ e. absurd (none-some j e),
  λ h.
      let n = c.args.plan.now in
      let x = c.interface.result in
      let same : c.in-Some.across ≡ j = same_Some c.in-Some.across j ((c.in-Some.ensures j).1 h.has) in
      let is : IsInterface n j x.router x.link x.cost = rw same at c.interface.ensures.is in
      absurd (h.other ((its_link n j h.router c.args.own.now.link h.cost x.router x.link x.cost h.its is).0 ∙ c.if-interface-own.true)),
)

pub returns-in_default : goal.returns-in_default
returns-in_default c = λ j. (λ e. absurd (none-some j e), λ h. absurd (none-some j (sym c.in_default.is ∙ (c.holder.ensures j).1 h.has)))

pub returns : goal.returns
returns c = λ j.
    let n = c.args.plan.now in
    let own = c.args.own.now in
    let x = c.interface.result in
    let has = (c.in-Some.ensures c.in-Some.across).0 refl in
    let its = there n c.in-Some.across own.link c.args.address x has c.interface.ensures.is in
    let holder : HasAddressAcross n own.router own.link c.args.address c.in-Some.across = record { router = x.router; cost = x.cost; other = c.if-interface-own.false; its = its; has = has } in (
      λ e. let same : c.in-Some.across ≡ j = same_Some c.in-Some.across j e in rw same at holder,
      λ h. (c.in-Some.ensures j).1 h.has,
    )
