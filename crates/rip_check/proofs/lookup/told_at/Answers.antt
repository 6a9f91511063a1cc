use Rattle.std.proofs.Common.{◌∙◌, ℕ, Bool, cond, Option, None, Some, ap, sym}
use Rattle.rip_check.proofs.ToldTableLemmas.{mute, told_shown, told_silent}
use Rattle.rip_check.proofs.lookup.told_at.Goals as goal

abbrev silence : Bool → Option ℕ
silence is_mute = cond is_mute None (Some 16)

pub returns-in-Some-clause-metric : goal.returns-in-Some-clause-metric
returns-in-Some-clause-metric g c =
    let n = c.args.case.now.plan.now in
    let s = g.T.Table.state c.args.case.now.table.now in
    sym (told_shown (mute n s) s c.args.interface c.args.case.now.prefix c.in-Some.metric c.args.case.now.within (sym c.in-Some.ensures.metric))

pub returns-then-is_mute-clause-metric : goal.returns-then-is_mute-clause-metric
returns-then-is_mute-clause-metric g c =
    let n = c.args.case.now.plan.now in
    let s = g.T.Table.state c.args.case.now.table.now in
    sym (told_silent (mute n s) s c.args.interface c.args.case.now.prefix c.args.case.now.within (sym c.in-None.ensures.metric) ∙ ap silence (sym c.is_mute.ensures ∙ c.if-is_mute.true))

pub returns-else-is_mute-clause-metric : goal.returns-else-is_mute-clause-metric
returns-else-is_mute-clause-metric g c =
    let n = c.args.case.now.plan.now in
    let s = g.T.Table.state c.args.case.now.table.now in
    sym (told_silent (mute n s) s c.args.interface c.args.case.now.prefix c.args.case.now.within (sym c.in-None.ensures.metric) ∙ ap silence (sym c.is_mute.ensures ∙ c.if-is_mute.false))
