-- A number is that of one link type.
use Rattle.std.proofs.Common.{◌≡◌, ◌≢◌, ◌⊎◌, ◌∙◌, ℕ, inl, inr, cond, eqb, Option, Some, None, ap, sym, refl}
use Rattle.std.proofs.lemmas.Bool.{cases_eq}
use Rattle.rip_capture.specs.LinkTypes.{IsNoType, number_of}
use Rattle.rip_capture.specs.declared.link.LinkType.{LinkType}
use Rattle.rip_capture.specs.declared.link.LinkType.TheVariants.{Null, Ethernet, Raw, Loop, LinuxSll, Ipv4, LinuxSll2}

type_of : ℕ → Option LinkType
type_of n =
    cond (eqb n 0) (Some Null)
    (cond (eqb n 1) (Some Ethernet)
    (cond (eqb n 101) (Some Raw)
    (cond (eqb n 108) (Some Loop)
    (cond (eqb n 113) (Some LinuxSll)
    (cond (eqb n 228) (Some Ipv4)
    (cond (eqb n 276) (Some LinuxSll2) None))))))

type_of-number : (t : LinkType) → type_of (number_of t) ≡ Some t
unfolding type_of
type_of-number Null = refl
type_of-number Ethernet = refl
type_of-number Raw = refl
type_of-number Loop = refl
type_of-number LinuxSll = refl
type_of-number Ipv4 = refl
type_of-number LinuxSll2 = refl

pub one_type : (t u : LinkType) → number_of t ≡ number_of u → t ≡ u
one_type t u e =
    let same : Some t ≡ Some u = sym (type_of-number t) ∙ ap type_of e ∙ type_of-number u in
    cc same

-- a number is that of a link type, or of none
pub no_type : (n : ℕ) → 0 ≢ n → 1 ≢ n → 101 ≢ n → 108 ≢ n → 113 ≢ n → 228 ≢ n → 276 ≢ n → IsNoType n
no_type n a b c d e f g Null is = a is
no_type n a b c d e f g Ethernet is = b is
no_type n a b c d e f g Raw is = c is
no_type n a b c d e f g Loop is = d is
no_type n a b c d e f g LinuxSll is = e is
no_type n a b c d e f g Ipv4 is = f is
no_type n a b c d e f g LinuxSll2 is = g is

abbrev HasType : ℕ → Type 0
HasType n = (t : LinkType) × (number_of t ≡ n)

pub type-cases : (n : ℕ) → HasType n ⊎ IsNoType n
type-cases n =
    elim (cases_eq 0 n) [
      | inl is ↦ inl (Null, is)
      | inr a ↦
          elim (cases_eq 1 n) [
            | inl is ↦ inl (Ethernet, is)
            | inr b ↦
                elim (cases_eq 101 n) [
                  | inl is ↦ inl (Raw, is)
                  | inr c ↦
                      elim (cases_eq 108 n) [
                        | inl is ↦ inl (Loop, is)
                        | inr d ↦
                            elim (cases_eq 113 n) [
                              | inl is ↦ inl (LinuxSll, is)
                              | inr e ↦
                                  elim (cases_eq 228 n) [
                                    | inl is ↦ inl (Ipv4, is)
                                    | inr f ↦
                                        elim (cases_eq 276 n) [ inl is ↦ inl (LinuxSll2, is) | inr g ↦ inr (no_type n a b c d e f g) ]
                                  ]
                            ]
                      ]
                ]
          ]
    ]
