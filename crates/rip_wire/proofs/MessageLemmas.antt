-- What is read as a message is spelled so, and what is spelled so is read.
use Rattle.std.proofs.Common.{◌≡◌, ◌≢◌, ℕ, ◌+◌, ◌-◌, ◌*◌, ◌%◌, ◌≤◌, Bool, true, false, not, ◌&&◌, ◌||◌, cond, eqb, ltb, List, [], ◌∷◌, ◌++◌, Result, Ok, Err, length, get_or, take, drop, refl, sym, ap, subst, ◌∙◌, arith, append-nil}
use Rattle.std.proofs.Common.{is_ok}
use Rattle.std.proofs.lemmas.Bool.{eqb-true}
use Rattle.std.proofs.lemmas.Bool.Decides.{nat_tests}
use Rattle.std.proofs.lemmas.List.{length-drop, take_all}
use Rattle.rip_wire.specs.declared.entry.Entry.{Entry}
use Rattle.rip_wire.specs.declared.error.WireError.{WireError}
use Rattle.rip_wire.specs.declared.error.WireCode.TheVariants.{Empty}
use Rattle.rip_wire.specs.declared.datagram.Kind.{Kind}
use Rattle.rip_wire.specs.declared.datagram.Kind.TheVariants.{Request, Response}
use Rattle.rip_wire.specs.Grammar.{entries_bytes, ResponseBytes, RequestBytes}
use Rattle.rip_wire.specs.Message.{Message, request, response, ◌>>=◌, fault, entries_at, kind_in, groups_in, message_of_kind, message_in}
use Rattle.rip_wire.specs.Whole.{IsWhole}
use Rattle.rip_wire.proofs.BindLemmas.{bind_ok, passed, same_Ok}
use Rattle.rip_wire.proofs.NumberLemmas.{IsBytes}
use Rattle.rip_wire.proofs.SpellingLemmas.{spelled_all, read_all_again, length-entries_bytes}

-- the command of a kind
abbrev pub command_of : Kind → ℕ
command_of Request = 1
command_of Response = 2

-- what a header that is read has
pub record IsHeaded (b : List ℕ) (kind : Kind) : Type 0 where
  pub header : 4 ≤ length b
  pub command : get_or b 0 0 ≡ command_of kind
  pub version : get_or b 1 0 ≡ 2
  pub zeros : (get_or b 2 0 ≡ 0) × (get_or b 3 0 ≡ 0)
  pub few : length b ≤ 504
  pub even : (length b - 4) % 20 ≡ 0
  pub some : kind ≡ Response → length b ≢ 4

pub headed : (b : List ℕ) (kind : Kind) → kind_in b ≡ Ok kind → IsHeaded b kind
unfolding kind_in
headed b kind h =
    let p1 = passed (ltb (length b) 4) _ _ kind h in
    let p2 = passed (not (eqb (get_or b 0 0) 1 || eqb (get_or b 0 0) 2)) _ _ kind p1.1 in
    let p3 = passed (not (eqb (get_or b 1 0) 2)) _ _ kind p2.1 in
    let p4 = passed (not (eqb (get_or b 2 0) 0 && eqb (get_or b 3 0) 0)) _ _ kind p3.1 in
    let p5 = passed (ltb 504 (length b)) _ _ kind p4.1 in
    let p6 = passed (not (eqb ((length b - 4) % 20) 0)) _ _ kind p5.1 in
    let by_kind = last (eqb (get_or b 0 0) 1) refl kind p6.1 in
    record {
      header = grind (arith, nat_tests);
      command = by_kind.0 (grind (arith, nat_tests));
      version = grind (arith, nat_tests);
      zeros = (grind (arith, nat_tests), grind (arith, nat_tests));
      few = grind (arith, nat_tests);
      even = grind (arith, nat_tests);
      some = by_kind.1;
    }
  where
    last : (t : Bool) → eqb (get_or b 0 0) 1 ≡ t → (k : Kind) → cond t (Ok Request) (cond (eqb (length b) 4) (fault Empty 4) (Ok Response)) ≡ Ok k →
        ((get_or b 0 0 ≢ 1 → get_or b 0 0 ≡ 2) → get_or b 0 0 ≡ command_of k) × (k ≡ Response → length b ≢ 4)
    last true e k g =
        let same = same_Ok Request k g in
        let one = eqb-true _ _ e in
        (λ _. subst (λ (x : Kind). get_or b 0 0 ≡ command_of x) same one, λ is. let clash : Request ≡ Response = same ∙ is in absurd (cc clash))
    last false e k g =
        let p = passed (eqb (length b) 4) _ _ k g in
        let same = same_Ok Response k p.1 in
        let other : get_or b 0 0 ≢ 1 = grind (arith, nat_tests) in
        let longer : length b ≢ 4 = grind (arith, nat_tests) in
        (λ two. subst (λ (x : Kind). get_or b 0 0 ≡ command_of x) same (two other), λ _. longer)

pub kind_in-headed : (b : List ℕ) (kind : Kind) → IsHeaded b kind → kind_in b ≡ Ok kind
unfolding kind_in
kind_in-headed b Request h =
    let header = h.header in
    let few = h.few in
    let one : ltb (length b) 4 ≡ false = grind (arith, nat_tests) in
    let many : ltb 504 (length b) ≡ false = grind (arith, nat_tests) in
    rw (one, h.command, h.version, h.zeros.0, h.zeros.1, many, h.even) refl
kind_in-headed b Response h =
    let header = h.header in
    let few = h.few in
    let longer = h.some refl in
    let one : ltb (length b) 4 ≡ false = grind (arith, nat_tests) in
    let many : ltb 504 (length b) ≡ false = grind (arith, nat_tests) in
    let full : eqb (length b) 4 ≡ false = grind (arith, nat_tests) in
    rw (one, h.command, h.version, h.zeros.0, h.zeros.1, many, h.even, full) refl

head_four : (b rest : List ℕ) (command : ℕ) → 4 ≤ length b → get_or b 0 0 ≡ command → get_or b 1 0 ≡ 2 → get_or b 2 0 ≡ 0 → get_or b 3 0 ≡ 0 → rest ≡ drop 4 b → b ≡ command ∷ 2 ∷ 0 ∷ 0 ∷ rest
head_four [] rest command len c d e f g = absurd (omega arith)
head_four (x ∷ []) rest command len c d e f g = absurd (omega arith)
head_four (x ∷ y ∷ []) rest command len c d e f g = absurd (omega arith)
head_four (x ∷ y ∷ z ∷ []) rest command len c d e f g = absurd (omega arith)
head_four (x ∷ y ∷ z ∷ w ∷ ws) rest command len c d e f g = rw (c, d, e, f, g) refl

-- the kind that a message is of
-- what is known where a message is read
pub record IsReadMessage (b : List ℕ) (m : Message) : Type 0 where
  pub kind : Kind
  pub kind_is : kind_in b ≡ Ok kind
  pub message : message_of_kind b kind ≡ Ok m

pub read_message : (b : List ℕ) (m : Message) → message_in b ≡ Ok m → IsReadMessage b m
unfolding message_in
read_message b m h = let k = bind_ok (kind_in b) (message_of_kind b) m h in record { kind = k.0; kind_is = k.1; message = k.2 }

-- a request that is read has the bytes of one
pub request_bytes : (b : List ℕ) → message_in b ≡ Ok request → RequestBytes b
request_bytes b h = let r = read_message b request h in by_kind r.kind r.kind_is r.message
  where
    by_kind : (k : Kind) → kind_in b ≡ Ok k → message_of_kind b k ≡ Ok request → RequestBytes b
    by_kind Request is m =
        let head = headed b Request is in
        let header = head.header in
        let few = head.few in
        let even = head.even in
        record {
          count = groups_in b;
          few = omega arith;
          body = drop 4 b;
          groups = omega (arith, length-drop 4 b);
          bytes = head_four b (drop 4 b) 1 header head.command head.version head.zeros.0 head.zeros.1 refl;
        }
    by_kind Response is m =
        let e = bind_ok (entries_at (groups_in b) 4 b) _ request m in
        let clash = same_Ok (response e.0) request e.2 in
        absurd (cc clash)

-- a response that is read has the bytes of one
pub response_bytes : (b : List ℕ) (es : List Entry) → IsBytes b → message_in b ≡ Ok (response es) → ResponseBytes es b
response_bytes b es bytes h = let r = read_message b (response es) h in by_kind r.kind r.kind_is r.message
  where
    by_kind : (k : Kind) → kind_in b ≡ Ok k → message_of_kind b k ≡ Ok (response es) → ResponseBytes es b
    by_kind Request is m = let clash = same_Ok request (response es) m in absurd (cc clash)
    by_kind Response is m =
        let head = headed b Response is in
        let header = head.header in
        let few = head.few in
        let even = head.even in
        let longer = head.some refl in
        let e = bind_ok (entries_at (groups_in b) 4 b) _ (response es) m in
        let same : e.0 ≡ es = let g = same_Ok (response e.0) (response es) e.2 in cc g in
        let all = spelled_all (groups_in b) 4 b es bytes (omega arith) (e.1 ∙ ap Ok same) in
        let count = all.count in
        let whole : take (20 * groups_in b) (drop 4 b) ≡ drop 4 b = take_all (20 * groups_in b) (drop 4 b) (omega (arith, length-drop 4 b)) in
        record {
          some = omega arith;
          few = omega arith;
          entries = all.each;
          bytes = head_four b (entries_bytes es) 2 header head.command head.version head.zeros.0 head.zeros.1 (all.bytes ∙ whole);
        }

-- the bytes of a request are read as one
pub request_again : (b : List ℕ) → RequestBytes b → message_in b ≡ Ok request
unfolding message_in
request_again b r =
    let count = r.count in
    let few = r.few in
    let groups = r.groups in
    let size : length b ≡ 4 + length r.body = ap length r.bytes ∙ omega arith in
    let head : IsHeaded b Request = record {
      header = omega arith;
      command = rw r.bytes refl;
      version = rw r.bytes refl;
      zeros = (rw r.bytes refl, rw r.bytes refl);
      few = omega arith;
      even = omega arith;
      some = λ is. absurd (cc is);
    } in
    rw (kind_in-headed b Request head) refl

-- the bytes of a response are read as its entries
pub response_again : (b : List ℕ) (es : List Entry) → ResponseBytes es b → message_in b ≡ Ok (response es)
unfolding message_in
response_again b es r =
    let some = r.some in
    let few = r.few in
    let size : length b ≡ 4 + 20 * length es = ap length r.bytes ∙ omega (arith, length-entries_bytes es) in
    let head : IsHeaded b Response = record {
      header = omega arith;
      command = rw r.bytes refl;
      version = rw r.bytes refl;
      zeros = (rw r.bytes refl, rw r.bytes refl);
      few = omega arith;
      even = omega arith;
      some = λ is. omega arith;
    } in
    let count : groups_in b ≡ length es = omega arith in
    let here : drop 4 b ≡ entries_bytes es ++ [] = rw r.bytes (sym (append-nil (entries_bytes es))) in
    rw (kind_in-headed b Response head, count, read_all_again 4 b [] es r.entries here) refl

-- ---- What the check of a datagram meets

-- a fault of the header is the fault of all
pub kind_fault : (b : List ℕ) (e : WireError) → kind_in b ≡ Err e → message_in b ≡ Err e
unfolding message_in
kind_fault b e h = rw h refl

request_ok : (b : List ℕ) → kind_in b ≡ Ok Request → message_in b ≡ Ok request
unfolding message_in
request_ok b h = rw h refl

response_is : (b : List ℕ) → kind_in b ≡ Ok Response → message_in b ≡ (entries_at (groups_in b) 4 b >>= λ es. Ok (response es))
unfolding message_in
response_is b h = rw h refl

pub whole_request : (b : List ℕ) → kind_in b ≡ Ok Request → IsWhole b
whole_request b h = let head = headed b Request h in record { readable = rw (request_ok b h) refl; header = head.header; few = head.few }

-- a response whose entries are read is read
response_ok : (b : List ℕ) → kind_in b ≡ Ok Response → is_ok (entries_at (groups_in b) 4 b) ≡ true → is_ok (message_in b) ≡ true
response_ok b h all = rw (response_is b h) (goes_on (entries_at (groups_in b) 4 b) all)
  where
    goes_on : (r : Result (List Entry) WireError) → is_ok r ≡ true → is_ok (r >>= λ es. Ok (response es)) ≡ true
    goes_on (Ok es) g = refl
    goes_on (Err e) g = g

pub whole_response : (b : List ℕ) → kind_in b ≡ Ok Response → is_ok (entries_at (groups_in b) 4 b) ≡ true → IsWhole b
whole_response b h all = let head = headed b Response h in record { readable = response_ok b h all; header = head.header; few = head.few }

pub response_fault : (b : List ℕ) (e : WireError) → kind_in b ≡ Ok Response → entries_at (groups_in b) 4 b ≡ Err e → message_in b ≡ Err e
response_fault b e h g = response_is b h ∙ rw g refl
