use Rattle.std.proofs.Common.{◌∙◌, sym, arith}
use Rattle.rip_check.specs.Networks.{network_at}
use Rattle.rip_check.specs.Paths.{IsLeast}
use Rattle.rip_report.specs.ExplainText.{reachable, unreachable}
use Rattle.rip_report.proofs.ExplainLemmas.{not_far}
use Rattle.rip_report.proofs.OutLemmas.{adds_nothing, adds_one}
use Rattle.rip_report.proofs.explain.UnreachablePairText.add.Goals.{else-case-prefixes-via-then-case-prefixes+else-get-eq16, else-case-prefixes-via-else-case-prefixes}
use Rattle.rip_report.proofs.explain.UnreachablePairText.add.Goals as goal

pub returns-then-get-eq16 : goal.returns-then-get-eq16
returns-then-get-eq16 g c =
    let n = c.args.case.now.plan.now in
    let far : IsLeast (network_at n n.prefixes c.args.case.now.prefix) c.args.case.now.prefix c.args.router 16 = rw (sym c.get.ensures.value ∙ c.if-get-eq16.true) at c.metric.ensures in
    adds_one (unreachable (omega (arith, c.if-case-prefixes.true, c.prefixes.ensures)) far) c.push_unreachable_line.ensures

pub returns-else-case-prefixes : goal.returns-else-case-prefixes
returns-else-case-prefixes g c =
    elim c.else-case-prefixes.branch [
      | else-case-prefixes-via-then-case-prefixes+else-get-eq16 w ↦
          adds_nothing (reachable (λ planned. not_far (network_at c.args.case.now.plan.now c.args.case.now.plan.now.prefixes c.args.case.now.prefix) c.args.case.now.prefix c.args.router w.metric.result (λ e. w.if-get-eq16.false (w.get.ensures.value ∙ e)) w.metric.ensures))
      | else-case-prefixes-via-else-case-prefixes w ↦ adds_nothing (reachable (λ planned far. absurd (omega (arith, planned, w.if-case-prefixes.false, c.prefixes.ensures))))
    ]
