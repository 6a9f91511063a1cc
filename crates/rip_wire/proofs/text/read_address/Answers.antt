use Rattle.std.proofs.Common.{◌≡◌, ◌∙◌, ◌/◌, ◌%◌, ◌^◌, ◌<◌, sym, ap, Some, None, arith, refl}
use Rattle.rip_wire.proofs.ParsingLemmas.{number_of_bytes}
use Rattle.rip_wire.proofs.text.read_address.Goals as goal

pub returns-in_err-d-clause-found : goal.returns-in_err-d-clause-found
returns-in_err-d-clause-found c a small e =
    let first = c.in_ok-a.ensures.found (a / 2 ^ 24) _ (omega arith) e in
    let second = c.in_ok-b.ensures.found (a / 2 ^ 16 % 256) _ (omega arith) first.1 in
    let third = c.in_ok-c.ensures.found (a / 2 ^ 8 % 256) _ (omega arith) second.1 in
    let clash : None ≡ Some (a % 256) = sym c.in_err-d.was ∙ c.read_number.ensures.found (a % 256) (omega arith) third.1 in
    absurd (cc clash)

pub returns-clause-found : goal.returns-clause-found
returns-clause-found c a small e =
    let first = c.in_ok-a.ensures.found (a / 2 ^ 24) _ (omega arith) e in
    let second = c.in_ok-b.ensures.found (a / 2 ^ 16 % 256) _ (omega arith) first.1 in
    let third = c.in_ok-c.ensures.found (a / 2 ^ 8 % 256) _ (omega arith) second.1 in
    let last : Some c.in_ok-d.d ≡ Some (a % 256) = sym c.in_ok-d.was ∙ c.read_number.ensures.found (a % 256) (omega arith) third.1 in
    let fourth : c.in_ok-d.d ≡ a % 256 = cc last in
    ap Some (c.from_be_bytes.ensures ∙ rw (first.0, second.0, third.0, fourth) (number_of_bytes a small))

pub returns-clause-said : goal.returns-clause-said
returns-clause-said c =
    let one = c.in_ok-a.ensures.said in
    let two = c.in_ok-b.ensures.said in
    let three = c.in_ok-c.ensures.said in
    let four = c.in_ok-d.ensures.said in
    let n = c.from_be_bytes.result in
    let sum = c.from_be_bytes.ensures in
    let fits : c.from_be_bytes.result < 2 ^ 32 = omega (arith, sum, one.0, two.0, three.0, four.0) in
    let first : n / 2 ^ 24 ≡ c.in_ok-a.a = omega (arith, sum, one.0, two.0, three.0, four.0) in
    let second : n / 2 ^ 16 % 256 ≡ c.in_ok-b.b = omega (arith, sum, one.0, two.0, three.0, four.0) in
    let third : n / 2 ^ 8 % 256 ≡ c.in_ok-c.c = omega (arith, sum, one.0, two.0, three.0, four.0) in
    let fourth : n % 256 ≡ c.in_ok-d.d = omega (arith, sum, one.0, two.0, three.0, four.0) in
    (fits, one.1 ∙ rw (two.1, three.1, four.1, first, second, third, fourth) refl)
