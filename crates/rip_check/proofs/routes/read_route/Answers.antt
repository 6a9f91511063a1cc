use Rattle.std.proofs.Common.{refl, arith}
use Rattle.rip_check.proofs.CaseLemmas.{in_range_told}
use Rattle.rip_check.proofs.ReadableLemmas.{not_readable, two_read}
use Rattle.rip_check.proofs.SurveyedLemmas.{two_metrics, not_its_own, nowhere, here, over, no_way}
use Rattle.rip_check.proofs.routes.read_route.Goals as goal
use Rattle.rip_check.specs.Cases.{network_of, told_in}

pub returns-then-found-clause-none : goal.returns-then-found-clause-none
returns-then-found-clause-none g c =
    not_readable (network_of c.args.case.now) c.lawful.ensures.network (told_in c.args.case.now) (in_range_told c.args.case.now) c.args.router c.args.case.now.prefix
    (two_metrics (network_of c.args.case.now) (told_in c.args.case.now) c.args.router c.args.case.now.prefix c.survey_of-found.result c.survey_of-found.ensures
    c.lawful.ensures.network (in_range_told c.args.case.now) c.requires.two c.if-found.true)

pub returns-then-found-eq16-clause-some : goal.returns-then-found-eq16-clause-some
returns-then-found-eq16-clause-some g c =
    two_read (network_of c.args.case.now) c.lawful.ensures.network (told_in c.args.case.now) (in_range_told c.args.case.now) c.args.router c.args.case.now.prefix _ c.requires.router c.requires.two refl (omega arith)
    (nowhere (network_of c.args.case.now) (told_in c.args.case.now) c.args.router c.args.case.now.prefix c.survey_of-found.result c.survey_of-found.ensures
    c.lawful.ensures.network (in_range_told c.args.case.now) c.requires.two c.if-found-eq16.true)

pub returns-then-found-3-clause-none : goal.returns-then-found-3-clause-none
returns-then-found-3-clause-none g c =
    not_readable (network_of c.args.case.now) c.lawful.ensures.network (told_in c.args.case.now) (in_range_told c.args.case.now) c.args.router c.args.case.now.prefix
    (no_way (network_of c.args.case.now) (told_in c.args.case.now) c.args.router c.args.case.now.prefix c.survey_of-found.result c.survey_of-found.ensures
    c.lawful.ensures.network (in_range_told c.args.case.now) c.requires.two c.if-found-eq16.false c.in-Some.link c.in-Some.is c.if-found-3.true)

pub returns-then-found-2-clause-none : goal.returns-then-found-2-clause-none
returns-then-found-2-clause-none g c =
    not_readable (network_of c.args.case.now) c.lawful.ensures.network (told_in c.args.case.now) (in_range_told c.args.case.now) c.args.router c.args.case.now.prefix
    (not_its_own (network_of c.args.case.now) (told_in c.args.case.now) c.args.router c.args.case.now.prefix c.survey_of-found.result c.survey_of-found.ensures
    c.lawful.ensures.network (in_range_told c.args.case.now) c.requires.two c.if-found-eq16.false c.in-None.is c.if-found-2.true)

pub returns-else-found-2-clause-some : goal.returns-else-found-2-clause-some
returns-else-found-2-clause-some g c =
    two_read (network_of c.args.case.now) c.lawful.ensures.network (told_in c.args.case.now) (in_range_told c.args.case.now) c.args.router c.args.case.now.prefix _ c.requires.router c.requires.two refl c.survey_of-found.ensures.speech.most
    (here (network_of c.args.case.now) (told_in c.args.case.now) c.args.router c.args.case.now.prefix c.survey_of-found.result c.survey_of-found.ensures
    c.lawful.ensures.network (in_range_told c.args.case.now) c.requires.two c.if-found.false c.if-found-eq16.false c.in-None.is c.if-found-2.false)

pub returns-else-found-3-clause-some : goal.returns-else-found-3-clause-some
returns-else-found-3-clause-some g c =
    two_read (network_of c.args.case.now) c.lawful.ensures.network (told_in c.args.case.now) (in_range_told c.args.case.now) c.args.router c.args.case.now.prefix _ c.requires.router c.requires.two refl c.survey_of-found.ensures.speech.most
    (over (network_of c.args.case.now) (told_in c.args.case.now) c.args.router c.args.case.now.prefix c.survey_of-found.result c.survey_of-found.ensures
    c.lawful.ensures.network (in_range_told c.args.case.now) c.requires.two c.if-found.false c.if-found-eq16.false c.in-Some.link c.in-Some.is c.if-found-3.false)
