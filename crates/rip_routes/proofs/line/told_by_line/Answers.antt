use Rattle.std.proofs.Common.{◌∙◌, sym, ap}
use Rattle.rip_log.specs.Fields.{fields_of}
use Rattle.rip_routes.specs.RouteLines.{told_by_line}
use Rattle.rip_routes.proofs.LineLemmas.{line_empty, line_silent, line_says}
use Rattle.rip_routes.proofs.ToldLemmas.{all_told}
use Rattle.rip_routes.proofs.line.told_by_line.Goals as goal

pub returns-in-None : goal.returns-in-None
returns-in-None c =
    let fields = fields_of c.before_comma.result.now in
    record {
      says = line_empty c.args.plan.now fields (c.in-None.ensures fields c.split_line-words.ensures) ∙ ap (λ front. told_by_line c.args.plan.now (fields_of front)) c.before_comma.ensures;
      told = tt;
    }

pub returns-in-Some : goal.returns-in-Some
returns-in-Some c =
    let fields = fields_of c.before_comma.result.now in
    let (rest, is) = c.in-Some.ensures fields c.split_line-words.ensures in
    record {
      says = line_silent c.args.plan.now fields c.in-Some.first.now rest is (sym c.if-is_silent.ensures) ∙ ap (λ front. told_by_line c.args.plan.now (fields_of front)) c.before_comma.ensures;
      told = tt;
    }

pub returns-in-Some-2 : goal.returns-in-Some-2
returns-in-Some-2 c =
    let fields = fields_of c.before_comma.result.now in
    let (rest, is) = c.in-Some.ensures fields c.split_line-words.ensures in
    let says = line_says c.args.plan.now fields c.in-Some.first.now rest c.told_by_words.result is (sym c.if-is_silent.ensures) (c.told_by_words.ensures fields c.split_line-words.ensures) in
    record {
      says = says ∙ ap (λ front. told_by_line c.args.plan.now (fields_of front)) c.before_comma.ensures;
      told = all_told c.args.plan.now c.lawful.ensures c.told_by_words.result fields says;
    }
