use Rattle.rip_report.specs.AuditText.{VerdictText}
use Rattle.rip_report.specs.ExplainText.{ExplainText}
use Rattle.rip_report.proofs.ExplainLemmas.{explain_not_refused}
use Rattle.rip_report.proofs.ReportLemmas.{accepted_read, went_accepted}
use Rattle.rip_report.proofs.VerdictLemmas.{verdict_not_refused}
use Rattle.rip_report.proofs.laws.accepted_answers.Goals as goal

pub returns-clause-read : goal.returns-clause-read
returns-clause-read c = accepted_read

pub returns-clause-audit : goal.returns-clause-audit
returns-clause-audit c = λ plan text all n s old new status accepted went.
    went_accepted (record { text = c.log_texts.ensures.text; fault = c.log_texts.ensures.fault }) c.one_join.ensures plan text n s (λ n s. VerdictText n s all)
    (λ n m q. c.one_plan.ensures q.document n m) (c.well_formed_texts.ensures plan) accepted old new status (verdict_not_refused n s all) went

pub returns-clause-explain : goal.returns-clause-explain
returns-clause-explain c = λ plan text all n s old new status accepted went.
    went_accepted (record { text = c.log_texts.ensures.text; fault = c.log_texts.ensures.fault }) c.one_join.ensures plan text n s (λ n s. ExplainText n s all)
    (λ n m q. c.one_plan.ensures q.document n m) (c.well_formed_texts.ensures plan) accepted old new status (explain_not_refused n s all) went
