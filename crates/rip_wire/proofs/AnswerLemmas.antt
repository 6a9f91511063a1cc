-- The answer of the reader, by the grammar and by the faults.
use Rattle.std.proofs.Common.{◌≡◌, ℕ, true, List, Result, Ok, Err, refl, sym, ap, ◌∙◌, is_ok}
use Rattle.rip_wire.specs.declared.entry.Entry.{Entry}
use Rattle.rip_wire.specs.declared.error.WireError.{WireError}
use Rattle.rip_wire.specs.declared.error.WireCode.{WireCode}
use Rattle.rip_wire.specs.Grammar.{ResponseBytes, RequestBytes}
use Rattle.rip_wire.specs.Faults.{WireFault}
use Rattle.rip_wire.specs.Message.{Message, request, response, message_in}
use Rattle.rip_wire.specs.Datagram.{message_or_request}
use Rattle.rip_wire.proofs.NumberLemmas.{IsBytes}
use Rattle.std.proofs.Common.{◌<◌, ◌++◌, false, length, ltb, arith}
use Rattle.std.proofs.lemmas.List.{length-append, get_or_append_left}
use Rattle.std.proofs.lemmas.Bool.Decides.{nat_tests}
use Rattle.rip_wire.specs.declared.datagram.Kind.{Kind}
use Rattle.rip_wire.specs.Message.{kind_in}
use Rattle.rip_wire.proofs.MessageLemmas.{headed, kind_fault, request_bytes, response_bytes, request_again, response_again}
use Rattle.rip_wire.proofs.FaultLemmas.{same_error, wire_fault, wire_fault_told}

-- what is readable has the message that it stands for
pub read_exact : (b : List ℕ) → is_ok (message_in b) ≡ true → message_in b ≡ Ok (message_or_request (message_in b))
read_exact b h = cases (message_in b) h
  where
    cases : (r : Result Message WireError) → is_ok r ≡ true → r ≡ Ok (message_or_request r)
    cases (Ok m) e = refl
    cases (Err f) e = absurd (cc)

clash : {P : Type 0} (b : List ℕ) (m : Message) (e : WireError) → message_in b ≡ Ok m → message_in b ≡ Err e → P
clash b m e h g = let both : ◌≡◌ {A = Result Message WireError} (Ok m) (Err e) = sym h ∙ g in absurd (cc)

pub read_response : (b : List ℕ) (es : List Entry) → IsBytes b → is_ok (message_in b) ≡ true →
    (message_or_request (message_in b) ≡ response es → ResponseBytes es b) × (ResponseBytes es b → message_or_request (message_in b) ≡ response es)
read_response b es bytes h =
    (λ is. response_bytes b es bytes (read_exact b h ∙ ap Ok is), λ spelled. ap message_or_request (response_again b es spelled))

pub read_request : (b : List ℕ) → is_ok (message_in b) ≡ true → (message_or_request (message_in b) ≡ request → RequestBytes b) × (RequestBytes b → message_or_request (message_in b) ≡ request)
read_request b h = (λ is. request_bytes b (read_exact b h ∙ ap Ok is), λ spelled. ap message_or_request (request_again b spelled))

pub read_no_fault : (b : List ℕ) (code : WireCode) (at : ℕ) → is_ok (message_in b) ≡ true → WireFault b code at → ⊥
read_no_fault b code at h fault = clash b _ _ (read_exact b h) (wire_fault_told b code at fault)

pub refused_response : (b : List ℕ) (e : WireError) (es : List Entry) → message_in b ≡ Err e → ResponseBytes es b → ⊥
refused_response b e es h spelled = clash b (response es) e (response_again b es spelled) h

pub refused_request : (b : List ℕ) (e : WireError) → message_in b ≡ Err e → RequestBytes b → ⊥
refused_request b e h spelled = clash b request e (request_again b spelled) h

-- the error that is answered is the fault
pub refused_fault : {X : Type 0} (b : List ℕ) (e : WireError) (code : WireCode) (at : ℕ) → message_in b ≡ Err e →
    (◌≡◌ {A = Result X WireError} (Err e) (Err (record { code = code; at = at })) → WireFault b code at) ×
    (WireFault b code at → ◌≡◌ {A = Result X WireError} (Err e) (Err (record { code = code; at = at })))
refused_fault {X = X} b e code at h = (
  λ is. let same : e ≡ record { code = code; at = at } = cc is in wire_fault b (record { code = code; at = at }) (h ∙ ap Err same),
  λ fault. ap Err (same_error e (record { code = code; at = at }) (sym h ∙ wire_fault_told b code at fault)),
)

-- ---- Past the longest datagram

same_head : (b more : List ℕ) → 504 < length b → kind_in (b ++ more) ≡ kind_in b
unfolding kind_in
same_head b more long =
    let size = length-append b more in
    let one = get_or_append_left b more 0 0 (omega arith) in
    let two = get_or_append_left b more 0 1 (omega arith) in
    let three = get_or_append_left b more 0 2 (omega arith) in
    let four = get_or_append_left b more 0 3 (omega arith) in
    let short : ltb (length b) 4 ≡ false = grind (arith, nat_tests) in
    let short_too : ltb (length (b ++ more)) 4 ≡ false = grind (arith, nat_tests) in
    let many : ltb 504 (length b) ≡ true = grind (arith, nat_tests) in
    let many_too : ltb 504 (length (b ++ more)) ≡ true = grind (arith, nat_tests) in
    rw (short, short_too, many, many_too, one, two, three, four) refl

-- more bytes than a datagram can have are refused alike, whatever follows them
pub longer_fault : (b more : List ℕ) (e : WireError) → message_in b ≡ Err e → 504 < length b → WireFault (b ++ more) e.code e.at
longer_fault b more e h long = wire_fault (b ++ more) e (refused (kind_in b) refl)
  where
    refused : (r : Result Kind WireError) → kind_in b ≡ r → message_in (b ++ more) ≡ Err e
    refused (Ok kind) is = let few = (headed b kind is).few in absurd (omega arith)
    refused (Err d) is =
        let told = kind_fault b d is in
        kind_fault (b ++ more) e (same_head b more long ∙ is ∙ ap Err (same d (sym told ∙ h)))
      where
        same : (d : WireError) → ◌≡◌ {A = Result Message WireError} (Err d) (Err e) → d ≡ e
        same d g = cc
