-- What the tables of a document hold, where their fields were read.
use Rattle.std.proofs.Common.{◌≡◌, ℕ, zero, suc, ◌≤◌, ◌⊎◌, inl, inr, List, [], ◌∷◌, Bool, true, cond, Option, Some, None, refl, sym, ◌∙◌, ap, subst, arith}
use Rattle.std.specs.Prelude.{ℤ, pos, is_some, option_map, slice_get, unwrap_or, codes as codes_of}
use Rattle.std.specs.List.{list_all}
use Rattle.std.proofs.lemmas.Option.{none-some, same_Some}
use Rattle.toml.specs.Data.{Data, Members, string, integer, boolean, table, get, as_str, as_table}
use Rattle.rip_wire.specs.Address.{address_in}
use Rattle.rip_plan.specs.declared.limits.TheConstants.{DEFAULT_COST}
use Rattle.rip_plan.specs.Fields.{◌&>◌, integer_if, address_if, link_if, addresses_in, cost_of, direct_of}
use Rattle.rip_plan.specs.Names.{number_of_name}
use Rattle.rip_plan.specs.PlanOf.{IsAddressOf, IsCostOf, IsDirectOf, IsGatewayOf, IsLinkOf, Matched}
use Rattle.rip_plan.specs.PlanFaults.{HasNoAddress, HasWrongCost, HasWrongDirect, IsOutsideOf}
use Rattle.std.proofs.lemmas.Bool.{and_parts}
use Rattle.rip_plan.proofs.ItemLemmas.{cases_option}
use Rattle.rip_plan.proofs.MatchingLemmas.{matched_right, matched_weaker}
use Rattle.rip_plan.proofs.TextLemmas.{TextLaws, address_is, first_named}
use Rattle.rip_plan.specs.Texts.{IsNoAddress}

pub then_some : {A B : Type 0} (o : Option A) (f : A → Option B) (y : B) → (o &> f) ≡ Some y → (x : A) × (o ≡ Some x) × (f x ≡ Some y)
then_some o f y h = grind arith

pub chosen : {A : Type 0} (b : Bool) (o : Option A) (x : A) → cond b o None ≡ Some x → (b ≡ true) × (o ≡ Some x)
chosen b o x h = grind arith

pub table_is : (d : Data) (ms : Members) → as_table d ≡ Some ms → d ≡ table ms
table_is d ms h = grind arith

pub text_is : (d : Data) (t : List ℕ) → as_str d ≡ Some t → d ≡ string t
text_is d t h = grind arith

-- a value that was read, or is none
pub map_some : {A : Type 0} (o : Option A) (given : Option A) → option_map Some o ≡ Some given → (x : A) × (o ≡ Some x) × (Some x ≡ given)
map_some o given h = grind arith

pub map_none : {A : Type 0} (o : Option A) → ◌≡◌ {A = Option (Option A)} (option_map Some o) None → o ≡ None
map_none o h = grind arith

-- an integer that stands there, or the one that is meant where nothing stands
pub cost_is : (o : Option Data) (given : Option ℤ) (c : ℕ) → integer_if o ≡ Some given → cost_of given ≡ Some c → (o ≡ Some (integer (pos c))) ⊎ ((o ≡ None) × (c ≡ DEFAULT_COST))
cost_is o given c h e = grind arith

pub direct_is : (o : Option Data) (cost : ℕ) (given : Option ℤ) (c : ℕ) → integer_if o ≡ Some given → direct_of cost given ≡ Some c → (o ≡ Some (integer (pos c))) ⊎ ((o ≡ None) × (c ≡ cost))
direct_is o cost given c h e = grind arith

-- a flag stands there, or nothing
abbrev pub IsFlagIf : Option Data → Option Bool → Type 0
IsFlagIf o None = o ≡ None
IsFlagIf o (Some b) = o ≡ Some (boolean b)

-- the flag that is meant: the one that stands there, or the other one
pub flag_meant : (o : Option Data) (given : Option Bool) (other : Bool) → IsFlagIf o given → (o ≡ Some (boolean (unwrap_or given other))) ⊎ ((o ≡ None) × (unwrap_or given other ≡ other))
flag_meant o given other h = grind arith

-- a text stands there, or nothing
abbrev pub IsTextIf : Option Data → Option (List ℕ) → Type 0
IsTextIf o None = o ≡ None
IsTextIf o (Some t) = o ≡ Some (string t)

pub link_is : (links : List (List ℕ)) (d : Data) (name : Option (List ℕ)) (link : Option ℕ) → IsTextIf (get (codes_of "link") d) name → link_if name links ≡ Some link → IsLinkOf links d link
link_is links d None link has h = let same : None ≡ link = same_Some None link h in subst (IsLinkOf links d) same has
link_is links d (Some name) link has h = let (l, e, same) = map_some (number_of_name name links) link h in subst (IsLinkOf links d) same (name, has, first_named name links l e)

pub gateway_is : (laws : TextLaws) (d : Data) (text : Option (List ℕ)) (via : Option ℕ) → IsTextIf (get (codes_of "via") d) text → address_if text ≡ Some via → IsGatewayOf d via
gateway_is laws d None via has h = let same : None ≡ via = same_Some None via h in subst (IsGatewayOf d) same has
gateway_is laws d (Some text) via has h = let (a, e, same) = map_some (address_in text) via h in subst (IsGatewayOf d) same (text, has, address_is laws text a e)

-- ---- an integer that is given, and is none that may stand there

integer_told : (f : Option ℤ → Option ℕ) (c : ℕ) (o : Option Data) (given : Option ℤ) → f None ≡ Some c → integer_if o ≡ Some given → f given ≡ None
    → (z : ℤ) × (o ≡ Some (integer z)) × (f (Some z) ≡ None)
integer_told f c o given h k g = grind arith

cost_direct : (z : ℤ) → cost_of (Some z) ≡ direct_of 15 (Some z)
cost_direct z = grind arith

outside : (most : ℕ) (z : ℤ) → direct_of most (Some z) ≡ None → IsOutsideOf most z
outside most z none c is least few = grind arith

pub cost_told : (o : Option Data) (given : Option ℤ) → integer_if o ≡ Some given → cost_of given ≡ None → (z : ℤ) × (o ≡ Some (integer z)) × IsOutsideOf 15 z
cost_told o given h e = let (z, is, none) = integer_told cost_of DEFAULT_COST o given refl h e in (z, is, outside 15 z (sym (cost_direct z) ∙ none))

pub direct_told : (cost : ℕ) (o : Option Data) (given : Option ℤ) → integer_if o ≡ Some given → direct_of cost given ≡ None → (z : ℤ) × (o ≡ Some (integer z)) × IsOutsideOf cost z
direct_told cost o given h e = let (z, is, none) = integer_told (direct_of cost) cost o given refl h e in (z, is, outside cost z none)

-- ---- costs that may stand

pub cost_within : (o : Option ℤ) (c : ℕ) → cost_of o ≡ Some c → (1 ≤ c) × (c ≤ 15)
cost_within o c h = grind arith

pub cost_fits : (d : Data) (c : ℕ) → IsCostOf d c → (1 ≤ c) × (c ≤ 15) → HasWrongCost d → ⊥
cost_fits d c h k g = grind arith

-- a direct metric that may stand beside the cost
pub direct_fits : (d : Data) (c e : ℕ) → IsCostOf d c → IsDirectOf d c e → (1 ≤ e) × (e ≤ c) → HasWrongDirect d → ⊥
direct_fits d c e h k g w = grind arith

-- ---- a gateway that is no address

pub gateway_told : (laws : TextLaws) (d : Data) (text : Option (List ℕ)) → IsTextIf (get (codes_of "via") d) text → address_if text ≡ None → HasNoAddress (codes_of "via") d
gateway_told laws d text h k = grind arith

pub gateway_fits : (d : Data) (via : Option ℕ) → IsGatewayOf d via → HasNoAddress (codes_of "via") d → ⊥
gateway_fits d via h k = grind arith

-- ---- further addresses

-- the item is a text of which this address is read
abbrev pub IsReadOf : ℕ → Data → Type 0
IsReadOf a d = (text : List ℕ) × (d ≡ string text) × (address_in text ≡ Some a)

pub addresses_read : (ds : List Data) (also : List ℕ) → addresses_in ds ≡ Some also → Matched IsReadOf also ds
addresses_read [] also h = let same : [] ≡ also = same_Some [] also h in subst (λ (l : List ℕ). Matched IsReadOf l []) same tt
addresses_read (d ∷ ds) also h =
    let (a, first, h1) = then_some (as_str d &> address_in) _ also h in
    let (others, rest, h2) = then_some (addresses_in ds) _ also h1 in
    grind (arith, addresses_read ds others rest)

-- the addresses of these texts
pub addresses_are : (laws : TextLaws) (ds : List Data) (also : List ℕ) → addresses_in ds ≡ Some also → Matched IsAddressOf also ds
addresses_are laws ds also h = matched_weaker IsReadOf IsAddressOf (λ a d read. (read.0, read.1, address_is laws read.0 a read.2)) also ds (addresses_read ds also h)

-- a text among them that is no address
pub addresses_told : (ds : List Data) → list_all (λ x. is_some (as_str x)) ds ≡ true → addresses_in ds ≡ None
    → (k : ℕ) × (text : List ℕ) × (slice_get ds k ≡ Some (string text)) × (address_in text ≡ None)
addresses_told [] all h = absurd (none-some [] (sym h))
addresses_told (d ∷ ds) all h =
    let (is, others) = and_parts (is_some (as_str d)) (list_all (λ x. is_some (as_str x)) ds) all in
    elim (cases_option (addresses_in ds)) [
      | inl rest ↦ let (m, t, at, bad) = addresses_told ds others rest in (suc m, t, at, bad)
      | inr (more, rest) ↦
          elim (cases_option (as_str d)) [ inl e ↦ absurd (grind arith) | inr (text, e) ↦ (zero, text, ap (λ (x : Data). Some x) (text_is d text e), grind arith) ]
    ]

pub addresses_clear : (laws : TextLaws) (ds : List Data) (also : List ℕ) → addresses_in ds ≡ Some also → (k : ℕ) (text : List ℕ) → slice_get ds k ≡ Some (string text) → IsNoAddress text → ⊥
addresses_clear laws ds also h k text at none = grind (arith, matched_right IsAddressOf also ds k (string text) (addresses_are laws ds also h) at, none)
