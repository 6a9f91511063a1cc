use Rattle.std.proofs.Common.{◌≡◌, ◌∙◌, ap, sym, arith, ℕ}
use Rattle.std.proofs.lemmas.Option.{slice_get-get_or}
use Rattle.std.specs.Prelude.{unwrap_or}
use Rattle.rip_table.specs.Tallies.{is_plain_bad, lines_in, lines_where}
use Rattle.rip_table.proofs.tallies.Tallies.bad.Goals as goal

pub returns : goal.returns
returns g c events k h is =
    let same : c.in-Some.k ≡ k = ap (λ o. unwrap_or o 0) (sym c.in-Some.is ∙ c.number_of.ensures.value ∙ is) in
    let at = slice_get-get_or c.args.self.now.plain c.in-Some.k _ (omega (arith, h.codes, c.in-Some.ensures.below)) in
    h.of_lines c.in-Some.k _ at ∙ ap (λ (j : ℕ). lines_in (lines_where (is_plain_bad j) events)) same
