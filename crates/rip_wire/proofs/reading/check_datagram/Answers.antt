use Rattle.std.proofs.Common.{ap, sym, ◌∙◌, Ok}
use Rattle.std.proofs.lemmas.Result.{err_from_is_err_and, MatchResult-weaker}
use Rattle.rip_wire.proofs.MessageLemmas.{headed, kind_fault, whole_request, whole_response, response_fault}
use Rattle.rip_wire.proofs.reading.check_datagram.Goals as goal

pub returns-in_err-read_kind-clause-fault : goal.returns-in_err-read_kind-clause-fault
returns-in_err-read_kind-clause-fault c =
    let p = err_from_is_err_and c.from_residual.result c.from_residual.ensures.1 in
    rw (p.1, p.2) (kind_fault c.args.bytes.now c.in_err-read_kind.field-0.0 (sym c.in_err-read_kind.ensures))

pub check_entries-requires-clause-header : goal.check_entries-requires-clause-header
check_entries-requires-clause-header c = (headed c.args.bytes.now _ (sym c.in_ok-read_kind.ensures ∙ ap Ok c.in-Response.is)).header

pub check_entries-requires-clause-few : goal.check_entries-requires-clause-few
check_entries-requires-clause-few c = (headed c.args.bytes.now _ (sym c.in_ok-read_kind.ensures ∙ ap Ok c.in-Response.is)).few

pub returns-in-Request-clause-whole : goal.returns-in-Request-clause-whole
returns-in-Request-clause-whole c = whole_request c.args.bytes.now (sym c.in_ok-read_kind.ensures ∙ ap Ok c.in-Request.is)

pub returns-in-Response-clause-whole : goal.returns-in-Response-clause-whole
returns-in-Response-clause-whole c =
    MatchResult-weaker c.check_entries.result c.check_entries.ensures (λ _ all. whole_response c.args.bytes.now (sym c.in_ok-read_kind.ensures ∙ ap Ok c.in-Response.is) all) (λ _ _. tt)

pub returns-in-Response-clause-fault : goal.returns-in-Response-clause-fault
returns-in-Response-clause-fault c =
    MatchResult-weaker c.check_entries.result c.check_entries.ensures (λ _ _. tt) (λ e h. response_fault c.args.bytes.now e (sym c.in_ok-read_kind.ensures ∙ ap Ok c.in-Response.is) h)
