use Rattle.std.proofs.Common.{arith, ◌≡◌, ◌∙◌, refl, sym, subst, List, ℕ, [], ◌∷◌, length, get_or, ◌<◌}
use Rattle.std.proofs.lemmas.Bool.{eqb-true}
use Rattle.std.proofs.lemmas.Option.{slice_get-get_or, slice_get_within}
use Rattle.std.proofs.lemmas.Slice.Eq.{bytes_eq-Decides}
use Rattle.rip_plan.specs.Relations.{HasAddresses, IsLinkName}
use Rattle.rip_table.proofs.recent.is_at.Goals as goal

pub link_name-requires : goal.link_name-requires
link_name-requires c = c.lawful.ensures.link_known c.args.i _ _ _ c.interface-interface.ensures.is

pub returns-then-eq : goal.returns-then-eq
returns-then-eq c = λ same.
    let n = c.args.plan.now in
    let i = c.args.i in
    let own = c.interface-interface.result in
    let name : c.link_name.result.now ≡ c.args.link_name.now = (bytes_eq-Decides c.link_name.result.now c.args.link_name.now).0 (sym c.eq-then-eq.ensures ∙ same) in
    let sends : own.address ≡ c.args.address = eqb-true _ _ (sym c.eq.ensures ∙ c.if-eq.true) in
    let within = slice_get_within n.interfaces i own c.interface-interface.ensures.exact in
    let listed : i < length n.also = omega (arith, within, c.lawful.ensures.also_listed) in
    let also = get_or n.also i [] in
    let addresses : HasAddresses n i own.link (own.address ∷ also) = record {
      interface = own;
      listed = c.interface-interface.ensures.exact;
      link = refl;
      also = also;
      further = slice_get-get_or n.also i [] listed;
      all = refl;
    } in
    let named : IsLinkName n own.link c.args.link_name.now = subst (λ (t : List ℕ). IsLinkName n own.link t) name c.link_name.ensures in
    (own.link, named, (own.address ∷ also, addresses, (0, omega arith, sends)))
