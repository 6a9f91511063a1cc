use Rattle.std.proofs.Common.{◌≡◌, ◌≢◌, ◌∙◌, ℕ, List, [], Some, ap, get_or, min, refl, sym, take, length, ◌<◌, subst}
use Rattle.std.proofs.lemmas.Bool.{ne_eqb}
use Rattle.std.proofs.lemmas.Option.{slice_get-get_or}
use Rattle.rip_capture.specs.Interfaces.{Named, came_by, named}
use Rattle.rip_capture.specs.declared.interface.Interface.{Interface}
use Rattle.rip_capture.proofs.bodies.OpenSection.interface.Goals as goal

-- an interface with a name
with_name : (i : Interface) (k : ℕ) → i.name.len ≢ 0 → Named (take (min i.name.len 64) i.name.bytes) ≡ named (Some i) k
with_name i k some = rw (ne_eqb i.name.len 0 some) refl

blank : Interface
blank = record { link_number = 0; most = 0; name = record { bytes = []; len = 0 }; resolution = 0; offset = 0 }

pub returns-else-name-eq0 : goal.returns-else-name-eq0
unfolding blank
returns-else-name-eq0 c =
    let k = c.args.number in
    let all = c.deref.result.now in
    let items = c.args.self.now.interfaces.items in
    let here : k < length all = subst (λ (l : List Interface). k < length l) (sym c.deref.ensures.0) c.requires in
    let i = get_or all k blank in
    with_name i k c.if-name-eq0.false ∙ ap (λ o. named o k) (sym (slice_get-get_or all k blank here)) ∙ ap (λ l. came_by l k) c.deref.ensures.0
