use Rattle.std.proofs.Common.{◌≡◌, ◌∙◌, ap, sym, subst, true, Bool, None}
use Rattle.std.specs.Option.{is_some}
use Rattle.rip_report.specs.AuditText.{UnsettledLines}
use Rattle.rip_report.proofs.OutLemmas.{added_also}
use Rattle.rip_report.proofs.UnsettledLemmas.{known_place}
use Rattle.rip_report.proofs.audit.add_unsettled.Goals as goal

pub push_unsettled_line-requires : goal.push_unsettled_line-requires
push_unsettled_line-requires g c = known_place c.args.plan.now (g.T.Table.state c.args.table.now) None c.args.place.now c.lawful.ensures c.requires.first

pub returns-in-Some : goal.returns-in-Some
returns-in-Some g c =
    let all : true ≡ c.args.all = sym (ap is_some c.in-Some.is) ∙ c.requires.all in
    added_also (λ text is. subst (λ (b : Bool). UnsettledLines c.args.plan.now (g.T.Table.state c.args.table.now) b c.args.place.now text) all is) c.add_pairs.ensures
