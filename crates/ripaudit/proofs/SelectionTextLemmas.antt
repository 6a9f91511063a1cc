-- What stands behind the link of a word.
use Rattle.std.proofs.Common.{◌≡◌, ◌≢◌, ◌^◌, ◌<◌, ◌++◌, ◌∷◌, ◌∙◌, ℕ, List, [], ◌⊎◌, Option, Some, None, Result, Bool, true, false, not, ap, ap₂, arith, decimal, get_or, inl, inr, refl, subst, suc, sym}
use Rattle.std.specs.Int.{IsInRange}
use Rattle.std.specs.List.{AllPass}
use Rattle.std.specs.Option.{IfSome}
use Rattle.std.specs.Result.{result_ok}
use Rattle.std.proofs.lemmas.Bool.{cases_Bool, le-leb}
use Rattle.std.proofs.lemmas.List.Elements.{All-append}
use Rattle.std.proofs.lemmas.List.Sums.{AllPass-from_list_all, list_all-from_AllPass}
use Rattle.rip_wire.specs.Name.{IsName, IsNameByte}
use Rattle.rip_report.specs.Selections.{Part, Selection, nothing_named}
use Rattle.std.specs.Str.{bytes_eq}
use Rattle.std.specs.Str.Parse.{ParsesUnsigned}
use Rattle.std.proofs.lemmas.Fmt.{parse-decimal}
use Rattle.std.proofs.lemmas.Slice.Eq.{bytes_eq-Decides}
use Rattle.rip_wire.proofs.ParsingLemmas.{Lacks-decimal}
use Rattle.ripaudit.specs.Texts.{Lacks}
use Rattle.ripaudit.specs.CaptureWords.{IsPartText, link, part_in, which}
use Rattle.ripaudit.specs.SelectionTexts.{AreVlanTexts, AreVlans, IsInterfaceName, IsSelectionText, IsVlanText, both, interface, is_digit_or_dot, is_digits_and_dots, last, more, vlans}
use Rattle.ripaudit.specs.declared.words.CaptureWord.{CaptureWord}
use Rattle.ripaudit.proofs.CaptureWordLemmas.{has_byte, lacks}

-- the text of a VLAN is read as its number
pub parsed_vlan : {E : Type 0} (vlan : ℕ) (text : List ℕ) (r : Result ℕ E) (o : Option ℕ) → IsVlanText text vlan → ParsesUnsigned 16 10 text r → o ≡ result_ok r → o ≡ Some vlan
parsed_vlan vlan text r o is parses e = e ∙ ap result_ok (parse-decimal 16 vlan text r (omega (arith, is.few)) (omega (arith, is.few)) is.text_is parses)

-- what a comparison of texts tells
equal_if : (b : Bool) → false ≡ not b → b ≡ true
equal_if true e = refl
equal_if false e = cc e

unequal_if : (b : Bool) → true ≡ not b → b ≡ true → ⊥
unequal_if true e is = cc e
unequal_if false e is = cc is

pub same_text : (xs ys : List ℕ) → false ≡ not (bytes_eq xs ys) → xs ≡ ys
same_text xs ys e = (bytes_eq-Decides xs ys).0 (equal_if (bytes_eq xs ys) e)

pub different : {X : Type 0} (xs ys : List ℕ) → true ≡ not (bytes_eq xs ys) → xs ≡ ys → X
different xs ys e is = absurd (unequal_if (bytes_eq xs ys) e ((bytes_eq-Decides xs ys).1 is))

-- it has no byte that is no digit
pub vlan_lacks : (c vlan : ℕ) (text : List ℕ) → (IsInRange 48 57 c → ⊥) → IsVlanText text vlan → Lacks c text
vlan_lacks c vlan text other is = subst (Lacks c) (sym is.text_is) (lacks c (decimal vlan) (Lacks-decimal c vlan other (omega (arith, is.few))))

-- ---- texts of VLANs

-- a text is cut in one way at its first c
pub one_first : (c : ℕ) (xs ys us vs : List ℕ) → xs ++ c ∷ ys ≡ us ++ c ∷ vs → Lacks c xs → Lacks c us → (xs ≡ us) × (ys ≡ vs)
one_first c [] ys [] vs e l m = (refl, cc e)
one_first c [] ys (u ∷ us) vs e l m =
    let first : u ≡ c = cc e in
    absurd (m 0 0 (omega arith) first)
one_first c (x ∷ xs) ys [] vs e l m =
    let first : x ≡ c = cc e in
    absurd (l 0 0 (omega arith) first)
one_first c (x ∷ xs) ys (u ∷ us) vs e l m =
    let first : x ≡ u = cc e in
    let rest : xs ++ c ∷ ys ≡ us ++ c ∷ vs = cc e in
    let back = one_first c xs ys us vs rest (λ k d lt. l (suc k) d (omega arith)) (λ k d lt. m (suc k) d (omega arith)) in
    (ap₂ (λ a b. a ∷ b) first back.0, back.1)

-- without a dot there is one VLAN
pub last_vlan : (text all : List ℕ) → Lacks 46 text → AreVlanTexts text all → (vlan : ℕ) × IsVlanText text vlan × (all ≡ vlan ∷ [])
last_vlan text all lacks_dot (last _ _ vlan is e) = (vlan, is, e)
last_vlan text all lacks_dot (more _ _ first rest others vlan split is are e) = absurd (has_byte 46 first rest (subst (Lacks 46) split lacks_dot))

dot_is_no_digit : IsInRange 48 57 46 → ⊥
dot_is_no_digit h = omega (arith, h.0)

-- with a dot there is one in front of it, and others behind it
pub first_vlan : (text number behind all : List ℕ) → text ≡ number ++ 46 ∷ behind → Lacks 46 number → AreVlanTexts text all
    → (vlan : ℕ) × (others : List ℕ) × IsVlanText number vlan × AreVlanTexts behind others × (all ≡ vlan ∷ others)
first_vlan text number behind all cut_at lacks_dot (last _ _ vlan is e) = absurd (has_byte 46 number behind (subst (Lacks 46) cut_at (vlan_lacks 46 vlan text dot_is_no_digit is)))
first_vlan text number behind all cut_at lacks_dot (more _ _ first rest others vlan split is are e) =
    let same = one_first 46 number behind first rest (sym cut_at ∙ split) lacks_dot (vlan_lacks 46 vlan first dot_is_no_digit is) in
    (vlan, others, subst (λ (t : List ℕ). IsVlanText t vlan) (sym same.0) is, subst (λ (t : List ℕ). AreVlanTexts t others) (sym same.1) are, e)

-- ---- what VLANs look like

in_digits : (b : ℕ) → IsInRange 48 57 b → is_digit_or_dot b ≡ true
in_digits b h = rw (le-leb 48 b h.0, le-leb b 57 h.1) refl

decimal_look : (n : ℕ) → n < 2 ^ 64 → AllPass is_digit_or_dot (decimal n)
decimal_look n small k d lt =
    let b = get_or (decimal n) k d in
    elim (cases_Bool (is_digit_or_dot b)) [
      | inl on ↦ on
      | inr off ↦ absurd (lacks b (decimal n) (Lacks-decimal b n (λ range. cc (sym off ∙ in_digits b range)) small) k d lt refl)
    ]

vlans_pass : (text all : List ℕ) → AreVlanTexts text all → AllPass is_digit_or_dot text
vlans_pass text all (last _ _ vlan is e) = subst (AllPass is_digit_or_dot) (sym is.text_is) (decimal_look vlan (omega (arith, is.few)))
vlans_pass text all (more _ _ first rest others vlan split is are e) =
    let P : ℕ → Type 0 = λ b. is_digit_or_dot b ≡ true in
    let number = subst (AllPass is_digit_or_dot) (sym is.text_is) (decimal_look vlan (omega (arith, is.few))) in
    let dot = AllPass-from_list_all is_digit_or_dot (46 ∷ []) refl in
    subst (AllPass is_digit_or_dot) (sym split) (All-append P first (46 ∷ rest) number (All-append P (46 ∷ []) rest dot (vlans_pass rest others are)))

vlans_look : (text all : List ℕ) → AreVlanTexts text all → is_digits_and_dots text ≡ true
vlans_look text all are = list_all-from_AllPass is_digit_or_dot text (vlans_pass text all are)

vlans_lack : (text all : List ℕ) → AreVlanTexts text all → Lacks 64 text
vlans_lack text all are k d lt e = cc (sym (ap is_digit_or_dot e) ∙ vlans_pass text all are k d lt)

-- ---- what stands behind a link

-- with `@` there are an interface and VLANs
pub only_both : (text a b : List ℕ) (selection : Selection) → text ≡ a ++ 64 ∷ b → Lacks 64 a → IsSelectionText text selection → (numbers : List ℕ) × IsInterfaceName a × AreVlans b numbers × (selection ≡ record { interface = a; vlans = numbers })
only_both text a b selection cut_at without (interface is e) = absurd (has_byte 64 a b (subst (Lacks 64) cut_at is.lacks))
only_both text a b selection cut_at without (vlans numbers are e) = absurd (has_byte 64 a b (subst (Lacks 64) cut_at (vlans_lack text numbers are.texts)))
only_both text a b selection cut_at without (both name digits numbers split is are e) =
    let same = one_first 64 a b name digits (sym cut_at ∙ split) without is.lacks in
    (numbers, subst IsInterfaceName (sym same.0) is, subst (λ (t : List ℕ). AreVlans t numbers) (sym same.1) are, e ∙ ap (λ (l : List ℕ). record { interface = l; vlans = numbers }) (sym same.0))

-- without it there is one of them
pub only_one : (text : List ℕ) (selection : Selection) → Lacks 64 text → IsSelectionText text selection → (IsInterfaceName text × (selection ≡ record { interface = text; vlans = [] })) ⊎ ((numbers : List ℕ) × AreVlans text numbers × (selection ≡ record { interface = []; vlans = numbers }))
only_one text selection without (interface is e) = inl (is, e)
only_one text selection without (vlans numbers are e) = inr (numbers, are, e)
only_one text selection without (both name digits numbers split is are e) = absurd (has_byte 64 name digits (subst (Lacks 64) split without))

-- an interface does not look like VLANs
pub no_vlans : (text numbers : List ℕ) → IsInterfaceName text → AreVlans text numbers → ⊥
no_vlans text numbers is are = cc (sym is.other ∙ vlans_look text numbers are.texts)

-- ---- a link, and what stands behind it

pub name_lacks : (text : List ℕ) → IsName text → Lacks 64 text
name_lacks text is k d lt e = at_sign (subst IsNameByte e (is.bytes k d lt)) where
  at_sign : IsNameByte 64 → ⊥
  at_sign (inl range) = omega (arith, range.0)
  at_sign (inr (inl range)) = omega (arith, range.0)
  at_sign (inr (inr (inl range))) = omega (arith, range.1)
  at_sign (inr (inr (inr (inl e)))) = omega (arith, e)
  at_sign (inr (inr (inr (inr (inl e))))) = omega (arith, e)
  at_sign (inr (inr (inr (inr (inr e))))) = omega (arith, e)

-- with `@` a link stands in front of it
pub part_behind : (text a b : List ℕ) (part : Part) → text ≡ a ++ 64 ∷ b → Lacks 64 a → IsPartText text part
    → (selection : Selection) × IsName a × IsSelectionText b selection × (part ≡ record { link = a; selection = selection })
part_behind text a b part cut_at without (link is e) = absurd (has_byte 64 a b (subst (Lacks 64) cut_at (name_lacks text is)))
part_behind text a b part cut_at without (which name behind selection split is what e) =
    let same = one_first 64 a b name behind (sym cut_at ∙ split) without (name_lacks name is) in
    (selection, subst IsName (sym same.0) is, subst (λ (t : List ℕ). IsSelectionText t selection) (sym same.1) what, e ∙ ap (λ (l : List ℕ). record { link = l; selection = selection }) (sym same.0))

-- without it there is a link alone
pub part_alone : (text : List ℕ) (part : Part) → Lacks 64 text → IsPartText text part → IsName text × (part ≡ record { link = text; selection = nothing_named })
part_alone text part without (link is e) = (is, e)
part_alone text part without (which name behind selection split is what e) = absurd (has_byte 64 name behind (subst (Lacks 64) split without))

-- what a file of a link names
pub named_so : (text a path : List ℕ) (selection : Selection) (r : Option CaptureWord) → (IsName a → IsPartText text (record { link = a; selection = selection }))
    → IfSome r (λ w. (part_in w ≡ record { link = a; selection = selection }) × (w.path.now ≡ path) × IsName a × (path ≢ []))
    → IfSome r (λ w. IsPartText text (part_in w) × IsName w.link.now × (w.path.now ≡ path) × (path ≢ []))
named_so text a path selection None is h = tt
named_so text a path selection (Some w) is h =
    (subst (IsPartText text) (sym h.0) (is h.2), subst IsName (sym (ap (λ (p : Part). p.link) h.0)) h.2, h.1, h.3)
