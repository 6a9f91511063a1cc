-- The addresses of the interfaces, in one list: of each interface its own, and then its further
-- ones.
use Rattle.std.specs.Prelude.{ℕ, ◌+◌, ◌==◌, ◌&&◌, Bool, List, [], ◌∷◌, ◌++◌, map, Option, None, Some, if◌then◌else◌}
use Rattle.rip_plan.specs.declared.addresses.Held.{Held}
use Rattle.rip_plan.specs.declared.parts.Interface.{Interface}

-- the addresses of the interface, whose number is n
abbrev pub held_by : ℕ → Interface → List ℕ → List Held
held_by n i also =
    map (λ a. record { interface = n; link = i.link; address = a }) (i.address ∷ also)

-- the addresses of the interfaces, which are counted from n, each with the list of its further ones
abbrev pub held_from : ℕ → List Interface → List (List ℕ) → List Held
held_from n [] also = []
held_from n (i ∷ is) [] = []
held_from n (i ∷ is) (also ∷ rest) = held_by n i also ++ held_from (n + 1) is rest

-- the address is on the link
abbrev pub is_at : ℕ → ℕ → Held → Bool
is_at l a h = h.link == l && h.address == a

-- the number of the first interface that has the address on the link
abbrev pub holder_at : ℕ → ℕ → List Held → Option ℕ
holder_at l a [] = None
holder_at l a (h ∷ hs) = if is_at l a h then Some h.interface else holder_at l a hs

-- one address on one link
abbrev pub have_one_address : Held → Held → Bool
have_one_address g h = g.link == h.link && g.address == h.address
