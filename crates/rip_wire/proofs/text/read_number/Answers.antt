use Rattle.std.proofs.Common.{◌≡◌, ◌∙◌, ap, ◌++◌, [], ℕ, List, Some, length, decimal, append-nil, true, false, eqb}
use Rattle.rip_wire.proofs.DecimalLemmas.{empty-is, no-reading, number_of-said, number_of-whole, same-reading}
use Rattle.rip_wire.proofs.text.read_number.Goals as goal

pub returns-in_err-number-clause-found : goal.returns-in_err-number-clause-found
returns-in_err-number-clause-found c n small e = absurd (no-reading c.args.text.now [] n c.in_err-number.ensures (number_of-whole c.args.text.now n small e))

pub returns-then-is_empty-clause-said : goal.returns-then-is_empty-clause-said
returns-then-is_empty-clause-said c =
    let said = number_of-said c.args.text.now c.in_ok-number.rest.now c.in_ok-number.number c.in_ok-number.ensures in
    let none = empty-is c.in_ok-number.rest.now c.if-is_empty.ensures in
    (said.0, said.1 ∙ ap (λ (l : List ℕ). decimal c.in_ok-number.number ++ l) none ∙ append-nil (decimal c.in_ok-number.number))

pub returns-then-is_empty-clause-found : goal.returns-then-is_empty-clause-found
returns-then-is_empty-clause-found c n small e =
    let read = same-reading c.args.text.now c.in_ok-number.rest.now [] c.in_ok-number.number n c.in_ok-number.ensures (number_of-whole c.args.text.now n small e) in
    ap Some read.0

pub returns-else-is_empty-clause-found : goal.returns-else-is_empty-clause-found
returns-else-is_empty-clause-found c n small e =
    let read = same-reading c.args.text.now c.in_ok-number.rest.now [] c.in_ok-number.number n c.in_ok-number.ensures (number_of-whole c.args.text.now n small e) in
    let clash : false ≡ true = c.if-is_empty.ensures ∙ ap (λ (l : List ℕ). eqb (length l) 0) read.1 in
    cc clash
