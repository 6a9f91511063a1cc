-- The options of an interface say one thing, or one of them is bad.
use Rattle.std.proofs.Common.{◌≡◌, ◌⊎◌, ◌+◌, ◌-◌, ◌<◌, ◌≤◌, ◌∙◌, ℕ, ap, min, take, zero, suc, List, length, drop, inl, inr, refl, sym, arith}
use Rattle.std.proofs.lemmas.Bool.{cases_Bool, cases_eq, cases_lt, false≢true}
use Rattle.std.proofs.lemmas.List.{drop-drop, length-drop, nil_from_length}
use Rattle.std.specs.Prelude.{slice_range}
use Rattle.byteorder.specs.Endian.{big_number, little_number}
use Rattle.rip_capture.specs.Numbers.{short_in}
use Rattle.rip_capture.specs.Options.{Describes, HasBadOption, IsOption, fits_option, option_len, option_number, option_size, option_value, with_option}
use Rattle.rip_capture.specs.Options.Describes.{end, last, more}
use Rattle.rip_capture.specs.Options.HasBadOption.{long, size, later}
use Rattle.rip_capture.specs.declared.interface.Interface.{Interface}
use Rattle.rip_capture.specs.declared.numbers.Order.{Order}
use Rattle.rip_capture.specs.declared.numbers.Order.TheVariants.{Big, Little}

pub Describes-one : (order : Order) (b : List ℕ) (i j k : Interface) → Describes order b i j → Describes order b i k → j ≡ k
Describes-one order b i j k (end _ _ _ less e) (end _ _ _ less' e') = sym e ∙ e'
Describes-one order b i j k (end _ _ _ less e) (last _ _ _ room none e') = absurd (omega arith)
Describes-one order b i j k (end _ _ _ less e) (more _ _ _ is on) = absurd (omega (arith, less, is.front))
Describes-one order b i j k (last _ _ _ room none e) (end _ _ _ less e') = absurd (omega arith)
Describes-one order b i j k (last _ _ _ room none e) (last _ _ _ room' none' e') = sym e ∙ e'
Describes-one order b i j k (last _ _ _ room none e) (more _ _ _ is on) = absurd (is.some none)
Describes-one order b i j k (more _ _ _ is on) (end _ _ _ less e') = absurd (omega (arith, less, is.front))
Describes-one order b i j k (more _ _ _ is on) (last _ _ _ room none e') = absurd (is.some none)
Describes-one order b i j k (more _ _ _ is on) (more _ _ _ is' on') =
    Describes-one order (drop (option_size (option_len order b)) b) (with_option order i (option_number order b) (option_value order b)) j k on on'

pub no-bad : (order : Order) (b : List ℕ) (i j : Interface) → Describes order b i j → HasBadOption order b → ⊥
no-bad order b i j (end _ _ _ less e) (long _ room some past) = omega arith
no-bad order b i j (end _ _ _ less e) (size _ room some inside wrong) = omega arith
no-bad order b i j (end _ _ _ less e) (later _ is on) = omega (arith, less, is.front)
no-bad order b i j (last _ _ _ room none e) (long _ room' some past) = some none
no-bad order b i j (last _ _ _ room none e) (size _ room' some inside wrong) = some none
no-bad order b i j (last _ _ _ room none e) (later _ is on) = is.some none
no-bad order b i j (more _ _ _ is on) (long _ room some past) = omega (arith, is.value, past)
no-bad order b i j (more _ _ _ is on) (size _ room some inside wrong) = false≢true (sym wrong ∙ is.fits)
no-bad order b i j (more _ _ _ is on) (later _ is' bad) =
    no-bad order (drop (option_size (option_len order b)) b) (with_option order i (option_number order b) (option_value order b)) j on bad

-- each option takes some bytes
shorter : (b : List ℕ) (n : ℕ) → 4 ≤ length b → length (drop (option_size n) b) < length b
shorter b n room = omega (arith, room, length-drop (option_size n) b)

cases-from : (fuel : ℕ) (order : Order) (b : List ℕ) (i : Interface) → length b < fuel → ((j : Interface) × Describes order b i j) ⊎ HasBadOption order b
cases-from zero order b i less = absurd (omega arith)
cases-from (suc fuel) order b i less =
    elim (cases_lt (length b) 4) [
      | inl short ↦ inl (i, end b i i short refl)
      | inr room ↦
          elim (cases_eq (option_number order b) 0) [
            | inl none ↦ inl (i, last b i i (omega (arith, room)) none refl)
            | inr some ↦
                elim (cases_lt (length b) (4 + option_len order b)) [
                  | inl past ↦ inr (long b (omega (arith, room)) some past)
                  | inr inside ↦
                      elim (cases_Bool (fits_option (option_number order b) (option_len order b))) [
                        | inr wrong ↦ inr (size b (omega (arith, room)) some (omega (arith, inside)) wrong)
                        | inl fits ↦
                            by (record { front = omega (arith, room); some = some; value = omega (arith, inside); fits = fits })
                            (cases-from fuel order (drop (option_size (option_len order b)) b) (with_option order i (option_number order b) (option_value order b))
                            (omega (arith, less, shorter b (option_len order b) (omega (arith, room)))))
                      ]
                ]
          ]
    ] where
      by : IsOption order b →
          ((j : Interface) × Describes order (drop (option_size (option_len order b)) b) (with_option order i (option_number order b) (option_value order b)) j)
          ⊎ HasBadOption order (drop (option_size (option_len order b)) b) → ((j : Interface) × Describes order b i j) ⊎ HasBadOption order b
      by is (inl told) = inl (told.0, more b i told.0 is told.1)
      by is (inr wrong) = inr (later b is wrong)

pub option-cases : (order : Order) (b : List ℕ) (i : Interface) → ((j : Interface) × Describes order b i j) ⊎ HasBadOption order b
option-cases order b i = cases-from (suc (length b)) order b i (omega arith)

-- ---- the option at a place

pub number-at : (order : Order) (at : ℕ) (b : List ℕ) → short_in order at b ≡ option_number order (drop at b)
number-at Big at b = refl
number-at Little at b = refl

pub len-at : (order : Order) (at : ℕ) (b : List ℕ) → short_in order (at + 2) b ≡ option_len order (drop at b)
len-at Big at b = ap (big_number 2) (sym (drop-drop 2 at b))
len-at Little at b = ap (little_number 2) (sym (drop-drop 2 at b))

pub value-at : (at len : ℕ) (b : List ℕ) → slice_range b (at + 4) (at + 4 + len) ≡ slice_range (drop at b) 4 (4 + len)
value-at at len b =
    let same : (at + 4 + len) - (at + 4) ≡ (4 + len) - 4 = omega arith in
    ap (λ n. take n (drop (at + 4) b)) same ∙ ap (take ((4 + len) - 4)) (sym (drop-drop 4 at b))

-- what is behind the bytes is nothing
pub drop-min : (n : ℕ) (b : List ℕ) → drop (min n (length b)) b ≡ drop n b
drop-min n b =
    elim (cases_lt (length b) n) [
      | inl past ↦ nil_from_length (drop (min n (length b)) b) (omega (arith, past, length-drop (min n (length b)) b)) ∙ sym (nil_from_length (drop n b) (omega (arith, past, length-drop n b)))
      | inr inside ↦ ap (λ k. drop k b) (omega (arith, inside))
    ]
