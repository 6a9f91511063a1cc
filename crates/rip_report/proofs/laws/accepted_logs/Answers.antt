use Rattle.rip_table.specs.State.{new_state}
use Rattle.rip_report.proofs.AcceptedLemmas.{Laws, accepted, judged}
use Rattle.rip_report.proofs.laws.accepted_logs.Goals as goal

pub returns-clause-accepted : goal.returns-clause-accepted
returns-clause-accepted c n text events s lawful comes =
    let new = c.new_states.ensures n lawful in
    let old = new_state n in
    let laws : Laws n = record {
      words = record { text = c.log_texts.ensures.text; fault = c.log_texts.ensures.fault };
      said = c.said_lines.ensures;
      come = λ said events t. c.lines_come_to.ensures n old t said events lawful new.0 new.1;
      calm = λ t text log all. c.calm_logs.ensures n old t 0 text log all lawful new.0 new.1;
      counts = c.calm_counts.ensures;
    } in
    accepted n text events s laws comes

pub returns-clause-table : goal.returns-clause-table
returns-clause-table c n text events s t lawful comes table =
    let new = c.new_states.ensures n lawful in
    let old = new_state n in
    let laws : Laws n = record {
      words = record { text = c.log_texts.ensures.text; fault = c.log_texts.ensures.fault };
      said = c.said_lines.ensures;
      come = λ said events t. c.lines_come_to.ensures n old t said events lawful new.0 new.1;
      calm = λ t text log all. c.calm_logs.ensures n old t 0 text log all lawful new.0 new.1;
      counts = c.calm_counts.ensures;
    } in
    judged n text events s t laws comes table
