-- What a line says, by its fields.
use Rattle.std.proofs.Common.{◌≡◌, ℕ, true, false, List, [], ◌∷◌, Option, None, Result, Ok, cond, sym, ap, ◌∙◌}
use Rattle.rip_plan.specs.Network.{Network}
use Rattle.rip_routes.specs.declared.error.RoutesCause.{RoutesCause}
use Rattle.rip_routes.specs.declared.told.Told.{Told}
use Rattle.rip_routes.specs.RouteLines.{is_silent, told_by_fields, told_by_line}

pub line_empty : (n : Network) (fields : List (List ℕ)) → fields ≡ [] → Ok None ≡ told_by_line n fields
line_empty n fields h = sym (ap (told_by_line n) h)

pub line_silent : (n : Network) (fields : List (List ℕ)) (first : List ℕ) (rest : List (List ℕ)) → fields ≡ first ∷ rest → is_silent first ≡ true → Ok None ≡ told_by_line n fields
line_silent n fields first rest h silent = sym (ap (told_by_line n) h ∙ ap (λ b. cond b (Ok None) (told_by_fields n (first ∷ rest))) silent)

pub line_says : (n : Network) (fields : List (List ℕ)) (first : List ℕ) (rest : List (List ℕ)) (r : Result (Option Told) RoutesCause) → fields ≡ first ∷ rest → is_silent first ≡ false
    → r ≡ told_by_fields n fields → r ≡ told_by_line n fields
line_says n fields first rest r h silent says =
    says ∙ ap (told_by_fields n) h ∙ sym (ap (told_by_line n) h ∙ ap (λ b. cond b (Ok None) (told_by_fields n (first ∷ rest))) silent)
