use Rattle.std.proofs.Common.{inl, inr, sym, ◌∙◌, arith, ◌+◌}
use Rattle.std.proofs.lemmas.Bool.{cases_lt}
use Rattle.rip_check.proofs.AcrossLemmas.{IsFor, told_below, told_seen}
use Rattle.rip_check.proofs.offers.least_told.Goals as goal
use Rattle.rip_check.proofs.offers.least_told.Goals.{then-own-from, else-own-from}

pub returns-clause-nothing : goal.returns-clause-nothing
returns-clause-nothing c = λ least next. elim c.if-own-from.branch [
  | then-own-from w ↦ omega (arith, next, w.shown-is, c.requires.most, c.from-2.ensures, c.from-3.ensures, c.min.ensures)
  | else-own-from w ↦ omega (arith, least, w.shown-is, c.requires.most, c.from-2.ensures, c.from-3.ensures, c.min.ensures)
]

pub returns-clause-least : goal.returns-clause-least
returns-clause-least c = λ n seen j s v is has other.
    let for : IsFor c.args.two c.args.own.router c.if-own-from.shown = elim c.if-own-from.branch [
      | then-own-from w ↦ inl (w.if-own-from.true ∙ c.from.ensures, w.shown-is)
      | else-own-from w ↦ inr (λ e. w.if-own-from.false (e ∙ sym c.from.ensures), w.shown-is)
    ] in
    let h = told_below n seen c.args.own.router c.args.own.link c.args.two is c.if-own-from.shown for j s v has other in
    omega (arith, h, c.from-2.ensures, c.from-3.ensures, c.min.ensures)

pub returns-clause-chosen : goal.returns-clause-chosen
returns-clause-chosen c = λ n seen is.
    let for : IsFor c.args.two c.args.own.router c.if-own-from.shown = elim c.if-own-from.branch [
      | then-own-from w ↦ inl (w.if-own-from.true ∙ c.from.ensures, w.shown-is)
      | else-own-from w ↦ inr (λ e. w.if-own-from.false (e ∙ sym c.from.ensures), w.shown-is)
    ] in
    elim (cases_lt (c.args.own.cost + c.if-own-from.shown) c.args.best) [
      | inl less ↦
          let h = told_seen n seen c.args.own.router c.args.own.link c.args.two is c.if-own-from.shown for (omega (arith, less, c.requires.most)) in
          inr (h.0, h.1, c.if-own-from.shown, h.2, h.3, omega (arith, less, c.from-2.ensures, c.from-3.ensures, c.min.ensures))
      | inr more ↦ inl (omega (arith, more, c.from-2.ensures, c.from-3.ensures, c.min.ensures))
    ]
