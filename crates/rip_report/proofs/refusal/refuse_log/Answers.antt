use Rattle.std.proofs.Common.{ℕ, ap, ◌∙◌}
use Rattle.rip_report.specs.RefusalText.{refusal_line}
use Rattle.rip_report.specs.declared.status.Status.TheVariants.{Refused}
use Rattle.rip_table.specs.declared.scene.LineCause.{LineCause}
use Rattle.rip_report.proofs.EndLemmas.{ends_one}
use Rattle.rip_report.proofs.OutLemmas.{adds_one}
use Rattle.rip_report.proofs.refusal.refuse_log.Goals as goal

pub returns-clause-prints : goal.returns-clause-prints
returns-clause-prints g c =
    ends_one g.K.Sink.taken g.K.Sink.broken c.args.out c.finish_with.result.0 c.new-text.ensures.start c.new-text.ensures.text
    (adds_one (ap (λ (n : ℕ). record { text = refusal_line n c.of.result; status = Refused }) c.from.ensures ∙ ap (λ (cause : LineCause). record { text = refusal_line c.args.error.line cause; status = Refused }) c.of.ensures) c.push_refusal_line.ensures) c.finish_with.ensures
