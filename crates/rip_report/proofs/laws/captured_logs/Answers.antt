use Rattle.rip_report.proofs.CapturedFileLemmas.{log-says}
use Rattle.rip_report.proofs.LogLineLemmas.{Reads}
use Rattle.rip_report.proofs.laws.captured_logs.Goals as goal

pub returns-clause-says : goal.returns-clause-says
returns-clause-says c = λ how files text answer records plain log good says.
    let known = (c.log_texts.ensures.text text records).1 says in
    let reads : Reads 0 text records = cc known in
    log-says (record { right = c.packet_bytes.ensures.right; fault = c.packet_bytes.ensures.fault }) c.one_origin.ensures.some c.names.ensures.exact c.address_texts.ensures.exact how files text answer records plain good log reads

pub returns-clause-joined : goal.returns-clause-joined
returns-clause-joined c = λ how files text answer n s plain log good table.
    let known = (c.log_texts.ensures.text text table.records).1 table.text in
    let reads : Reads 0 text table.records = cc known in
    let says = log-says (record {
      right = c.packet_bytes.ensures.right;
      fault = c.packet_bytes.ensures.fault;
    }) c.one_origin.ensures.some c.names.ensures.exact c.address_texts.ensures.exact how files text answer table.records plain good log reads in
    (table.records, says.1, table.joined)
