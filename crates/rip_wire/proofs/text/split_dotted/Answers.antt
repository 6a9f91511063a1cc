use Rattle.std.proofs.Common.{◌≡◌, ◌∙◌, sym, ap, ◌∷◌, ◌++◌, ℕ, List, length, decimal, arith}
use Rattle.rip_wire.proofs.DecimalLemmas.{no-reading, number_of-dotted, number_of-said, same-reading}
use Rattle.rip_wire.proofs.text.split_dotted.Goals as goal

pub returns-in_err-number-clause-found : goal.returns-in_err-number-clause-found
returns-in_err-number-clause-found c n rest small e = absurd (no-reading c.args.text.now (46 ∷ rest) n c.in_err-number.ensures (number_of-dotted c.args.text.now rest n small e))

pub returns-in_err-dot-clause-found : goal.returns-in_err-dot-clause-found
returns-in_err-dot-clause-found c n rest small e =
    let read = same-reading c.args.text.now c.in_ok-number.rest.now (46 ∷ rest) c.in_ok-number.number n c.in_ok-number.ensures (number_of-dotted c.args.text.now rest n small e) in
    absurd (omega (arith, c.in_err-dot.ensures.cases, ap length read.1))

pub returns-then-dot-eq46-clause-said : goal.returns-then-dot-eq46-clause-said
returns-then-dot-eq46-clause-said c =
    let said = number_of-said c.args.text.now c.in_ok-number.rest.now c.in_ok-number.number c.in_ok-number.ensures in
    (said.0, said.1 ∙ ap (λ (l : List ℕ). decimal c.in_ok-number.number ++ l) ((c.in_ok-dot.ensures.cases).0 ∙ ap (λ (d : ℕ). d ∷ c.in_ok-dot.rest.now) c.if-dot-eq46.true))

pub returns-then-dot-eq46-clause-found : goal.returns-then-dot-eq46-clause-found
returns-then-dot-eq46-clause-found c n rest small e =
    let read = same-reading c.args.text.now c.in_ok-number.rest.now (46 ∷ rest) c.in_ok-number.number n c.in_ok-number.ensures (number_of-dotted c.args.text.now rest n small e) in
    let parts : c.in_ok-dot.dot.now ∷ c.in_ok-dot.rest.now ≡ 46 ∷ rest = sym (c.in_ok-dot.ensures.cases).0 ∙ read.1 in
    (read.0, cc parts)

pub returns-else-dot-eq46-clause-found : goal.returns-else-dot-eq46-clause-found
returns-else-dot-eq46-clause-found c n rest small e =
    let read = same-reading c.args.text.now c.in_ok-number.rest.now (46 ∷ rest) c.in_ok-number.number n c.in_ok-number.ensures (number_of-dotted c.args.text.now rest n small e) in
    let parts : c.in_ok-dot.dot.now ∷ c.in_ok-dot.rest.now ≡ 46 ∷ rest = sym (c.in_ok-dot.ensures.cases).0 ∙ read.1 in
    let dot : c.in_ok-dot.dot.now ≡ 46 = cc parts in
    absurd (c.if-dot-eq46.false dot)
