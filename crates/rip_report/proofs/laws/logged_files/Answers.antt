use Rattle.rip_report.proofs.CapturedFileLemmas.{file-records, text-ends}
use Rattle.rip_report.proofs.LogLineLemmas.{Reads}
use Rattle.rip_report.proofs.laws.logged_files.Goals as goal

pub returns-clause-ends : goal.returns-clause-ends
returns-clause-ends c = λ how number lines after part bytes text answer is. text-ends how number lines part bytes text after answer is

pub returns-clause-says : goal.returns-clause-says
returns-clause-says c = λ how number lines after file text answer records plain good is says.
    let known = (c.log_texts.ensures.text text records).1 says in
    let reads : Reads 0 text records = cc known in
    file-records (record {
      right = c.packet_bytes.ensures.right;
      fault = c.packet_bytes.ensures.fault;
    }) c.one_origin.ensures.some c.names.ensures.exact c.address_texts.ensures.exact how number lines file text after answer records plain good is reads
