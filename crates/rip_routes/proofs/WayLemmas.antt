-- The ways that were told, in a set and in the rows.
use Rattle.std.proofs.Common.{◌≡◌, ℕ, Bool, true, false, List, cond, ◌&&◌, ◌==◌, subst}
use mathlib.Core.Path.{fun_ext}
use Rattle.std.specs.List.{list_any}
use Rattle.rip_routes.specs.declared.next_hop.NextHop.TheVariants.{Over, Via}
use Rattle.rip_routes.specs.Ways.{WayKey, same_way}

-- keys with one more, by their equality, which is this one
abbrev pub IsWithKey : (WayKey → WayKey → Bool) → List WayKey → WayKey → List WayKey → Type 0
IsWithKey eq old key new = (other : WayKey) → list_any (eq other) new ≡ cond (eq key other) true (list_any (eq other) old)

same_all : (eq : WayKey → WayKey → Bool)
    → ((r k s j l m : ℕ) → eq (r, k, Over l) (s, j, Over m) ≡ ((r == s && k == j) && (l == m)))
    → ((r k s j l m : ℕ) → eq (r, k, Over l) (s, j, Via m) ≡ ((r == s && k == j) && false))
    → ((r k s j l m : ℕ) → eq (r, k, Via l) (s, j, Over m) ≡ ((r == s && k == j) && false))
    → ((r k s j l m : ℕ) → eq (r, k, Via l) (s, j, Via m) ≡ ((r == s && k == j) && (l == m)))
    → (a b : WayKey) → eq a b ≡ same_way a b
same_all eq oo ov vo vv (r, k, Over l) (s, j, Over m) = oo r k s j l m
same_all eq oo ov vo vv (r, k, Over l) (s, j, Via m) = ov r k s j l m
same_all eq oo ov vo vv (r, k, Via l) (s, j, Over m) = vo r k s j l m
same_all eq oo ov vo vv (r, k, Via l) (s, j, Via m) = vv r k s j l m

pub with_key : (eq : WayKey → WayKey → Bool) (old : List WayKey) (key : WayKey) (new : List WayKey) → IsWithKey eq old key new
    → ((r k s j l m : ℕ) → eq (r, k, Over l) (s, j, Over m) ≡ ((r == s && k == j) && (l == m)))
    → ((r k s j l m : ℕ) → eq (r, k, Over l) (s, j, Via m) ≡ ((r == s && k == j) && false))
    → ((r k s j l m : ℕ) → eq (r, k, Via l) (s, j, Over m) ≡ ((r == s && k == j) && false))
    → ((r k s j l m : ℕ) → eq (r, k, Via l) (s, j, Via m) ≡ ((r == s && k == j) && (l == m)))
    → IsWithKey same_way old key new
with_key eq old key new is oo ov vo vv = subst (λ (f : WayKey → WayKey → Bool). IsWithKey f old key new) (fun_ext (λ a. fun_ext (λ b. same_all eq oo ov vo vv a b))) is
