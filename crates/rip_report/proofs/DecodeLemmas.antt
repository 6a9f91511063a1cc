-- What `decode` prints for a word, by what was read of it.
use Rattle.std.proofs.Common.{◌≡◌, ℕ, ◌<◌, ◌≤◌, ◌⊎◌, inl, inr, List, ◌++◌, Ok, length, take, drop, refl, sym, ap, subst, ◌∙◌, arith}
use Rattle.std.proofs.lemmas.List.{length-take, take_all, take-append-drop}
use Rattle.hex.specs.Hex.{decode_of}
use Rattle.rip_wire.specs.declared.entry.Entry.{Entry}
use Rattle.rip_wire.specs.declared.error.WireCode.{WireCode}
use Rattle.rip_wire.specs.Faults.{WireFault}
use Rattle.rip_wire.specs.Grammar.{ResponseBytes, RequestBytes}
use Rattle.rip_wire.specs.Message.{Message, request, response}
use Rattle.rip_report.specs.DecodeText.{DecodeText, no_datagram, a_request, a_response, refused_wire, shown}
use Rattle.rip_report.specs.declared.status.Status.TheVariants.{Done}

-- where the front is shorter than it could be it is the whole
whole : (front b : List ℕ) → front ≡ take 505 b → length front ≤ 504 → front ≡ b
whole front b is short = is ∙ take_all 505 b (let same = ap length is in omega (arith, length-take 505 b))

-- a datagram that was read
pub told_datagram : (word front b d : List ℕ) (m : Message) → decode_of word ≡ Ok b → front ≡ take 505 b → d ≡ front → length d ≤ 504
    → ((es : List Entry) → m ≡ response es → ResponseBytes es front) → (m ≡ request → RequestBytes front) → DecodeText word (shown d m)
told_datagram word front b d request h is same short es_of r_of =
    let all : d ≡ b = same ∙ whole front b is (subst (λ (l : List ℕ). length l ≤ 504) same short) in
    let spelled : decode_of word ≡ Ok d = h ∙ ap Ok (sym all) in
    a_request d spelled (subst RequestBytes (sym same) (r_of refl))
told_datagram word front b d (response es) h is same short es_of r_of =
    let all : d ≡ b = same ∙ whole front b is (subst (λ (l : List ℕ). length l ≤ 504) same short) in
    let spelled : decode_of word ≡ Ok d = h ∙ ap Ok (sym all) in
    a_response d es spelled (subst (ResponseBytes es) (sym same) (es_of es refl))

-- a fault that was told
pub told_fault : (word front b : List ℕ) (code : WireCode) (at : ℕ) → decode_of word ≡ Ok b → front ≡ take 505 b → WireFault front code at
    → (504 < length front → (more : List ℕ) → WireFault (front ++ more) code at) → DecodeText word (refused_wire code at)
told_fault word front b code at h is fault longer = by_length (split (length front))
  where
    split : (n : ℕ) → (n ≤ 504) ⊎ (504 < n)
    split n = grind arith

    by_length : (length front ≤ 504) ⊎ (504 < length front) → DecodeText word (refused_wire code at)
    by_length (inl short) = no_datagram front code at (h ∙ ap Ok (sym (whole front b is short))) fault
    by_length (inr long) =
        let all : front ++ drop 505 b ≡ b = ap (λ (l : List ℕ). l ++ drop 505 b) is ∙ take-append-drop 505 b in
        no_datagram b code at h (subst (λ (l : List ℕ). WireFault l code at) all (longer long (drop 505 b)))

shown_done : (b : List ℕ) (m : Message) → (shown b m).status ≡ Done
shown_done b request = refl
shown_done b (response es) = refl

-- which is Done
pub told_done : (word d : List ℕ) (m : Message) → DecodeText word (shown d m) → DecodeText word (record { text = (shown d m).text; status = Done })
told_done word d m told = subst (λ status. DecodeText word (record { text = (shown d m).text; status = status })) (shown_done d m) told
