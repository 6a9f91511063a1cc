use Rattle.std.proofs.Common.{◌≡◌, ℕ, List, [], ◌∷◌, true, not, ◌&&◌, length, map, arith, refl}
use Rattle.std.specs.Prelude.{filter}
use Rattle.std.specs.List.{list_any}
use Rattle.std.proofs.lemmas.Bool.Decides.{nat_tests}
use Rattle.std.proofs.lemmas.List.{nil_from_length}
use Rattle.rip_wire.specs.Prefix.{Block}
use Rattle.rip_plan.specs.declared.draft.DraftPlace.{DraftPlace}
use Rattle.rip_plan.specs.Draft.{has_address, is_outside}
use Rattle.rip_plan.specs.Seats.{is_on}
use Rattle.rip_plan.proofs.ClashLemmas.{any_listed}
use Rattle.rip_plan.proofs.draft.steps.is_out_of_link.Goals as goal

-- an address outside of a link, by the prefixes on it
outside_by : (l a : ℕ) (places : List DraftPlace) (blocks : List Block) → blocks ≡ map (λ p. p.prefix) (filter (λ p. is_on l p.seat) places)
    → (list_any (λ b. true) blocks && not (list_any (λ b. has_address b a) blocks)) ≡ is_outside l a places
outside_by l a places blocks h = grind (arith, any_listed)

any_some : (blocks : List Block) → (length blocks ≡ 0 → ⊥) → list_any (λ b. true) blocks ≡ true
any_some [] h = absurd (h refl)
any_some (b ∷ bs) h = refl

pub returns-then-not-is_empty : goal.returns-then-not-is_empty
returns-then-not-is_empty c =
    let blocks = c.in-Some.prefixes.now.items in
    grind (arith, nat_tests, any_some blocks, outside_by c.args.link c.args.address c.args.draft.now.places.items blocks, c.args.draft.now.blocked c.args.link)

pub returns-else-not-is_empty : goal.returns-else-not-is_empty
returns-else-not-is_empty c =
    let blocks = c.in-Some.prefixes.now.items in
    grind (arith, nat_tests, nil_from_length blocks, outside_by c.args.link c.args.address c.args.draft.now.places.items blocks, c.args.draft.now.blocked c.args.link)

pub returns-in-None : goal.returns-in-None
returns-in-None c = grind (arith, outside_by c.args.link c.args.address c.args.draft.now.places.items [], c.args.draft.now.blocked c.args.link)
