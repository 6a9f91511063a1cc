use Rattle.std.proofs.Common.{◌≡◌, ℕ, Option, None, Some, ap, not, refl, ◌∙◌}
use Rattle.rip_check.proofs.CaseLemmas.{in_range_told}
use Rattle.rip_check.proofs.OnePlaceLemmas.{two_shown, not_two}
use Rattle.rip_check.proofs.SilenceLemmas.{none_there, some_there}
use Rattle.rip_check.proofs.SurveyedLemmas.{mute, one_metric, silent_nowhere, tells_there, told_everywhere}
use Rattle.rip_check.proofs.routes.reason_there.Goals as goal
use Rattle.rip_check.specs.Cases.{network_of, told_in}

nothing : (o : Option ℕ) (l : ℕ) → o ≡ None → o ≡ Some l → ⊥
nothing o l none some = cc (none, some)

pub returns-then-found : goal.returns-then-found
returns-then-found g c =
    let n = network_of c.args.case.now in
    let shown = (told_in c.args.case.now) in
    let found = c.survey_of-found.result in
    let is = c.survey_of-found.ensures in
    let two = is.speech.two c.if-found.true in (
      refl,
      refl,
      two_shown n shown c.args.router c.args.case.now.prefix found.metric is.speech.most (mute n shown c.args.router c.args.case.now.prefix found is) is.speech.spoken (two.1, two.2, two.3, two.4),
    )

pub returns-in-Some : goal.returns-in-Some
returns-in-Some g c =
    let n = network_of c.args.case.now in
    let shown = (told_in c.args.case.now) in
    let found = c.survey_of-found.result in (
      refl,
      refl,
      not_two n shown c.args.router c.args.case.now.prefix found.metric (one_metric n shown c.args.router c.args.case.now.prefix found c.survey_of-found.ensures c.if-found.false),
      c.in-Some.ensures.some,
    )

pub returns-in-Some-attached_link : goal.returns-in-Some-attached_link
returns-in-Some-attached_link g c =
    let n = network_of c.args.case.now in
    let shown = (told_in c.args.case.now) in
    let found = c.survey_of-found.result in
    let is = c.survey_of-found.ensures in (
      refl,
      refl,
      not_two n shown c.args.router c.args.case.now.prefix found.metric (one_metric n shown c.args.router c.args.case.now.prefix found is c.if-found.false),
      told_everywhere n shown c.args.router c.args.case.now.prefix found is c.lawful.ensures.network (in_range_told c.args.case.now) c.in_default.ensures.none c.if-found-2.true
          (none_there found.silent (c.is_none.ensures ∙ ap not c.if-is_none.true)) c.in-Some-attached_link.link ((c.attached_link.ensures c.in-Some-attached_link.link).0 c.in-Some-attached_link.is),
    )

pub returns-in_default-attached_link : goal.returns-in_default-attached_link
returns-in_default-attached_link g c =
    let n = network_of c.args.case.now in
    let shown = (told_in c.args.case.now) in
    let found = c.survey_of-found.result in
    let is = c.survey_of-found.ensures in (
      refl,
      refl,
      not_two n shown c.args.router c.args.case.now.prefix found.metric (one_metric n shown c.args.router c.args.case.now.prefix found is c.if-found.false),
      c.in_default.ensures.none,
      λ l on. some_there found.silent (c.is_none.ensures ∙ ap not c.if-is_none.false) (silent_nowhere n shown c.args.router c.args.case.now.prefix found is l on),
    )

pub returns-in_default-attached_link-2 : goal.returns-in_default-attached_link-2
returns-in_default-attached_link-2 g c =
    let n = network_of c.args.case.now in
    let shown = (told_in c.args.case.now) in
    let found = c.survey_of-found.result in
    let is = c.survey_of-found.ensures in (
      refl,
      refl,
      not_two n shown c.args.router c.args.case.now.prefix found.metric (one_metric n shown c.args.router c.args.case.now.prefix found is c.if-found.false),
      c.in_default.ensures.none,
      λ l on. tells_there n shown c.args.router c.args.case.now.prefix found is c.lawful.ensures.network l on c.if-found-2.false,
    )

pub returns-in_default-attached_link-3 : goal.returns-in_default-attached_link-3
returns-in_default-attached_link-3 g c =
    let n = network_of c.args.case.now in
    let shown = (told_in c.args.case.now) in
    let found = c.survey_of-found.result in
    let is = c.survey_of-found.ensures in (
      refl,
      refl,
      not_two n shown c.args.router c.args.case.now.prefix found.metric (one_metric n shown c.args.router c.args.case.now.prefix found is c.if-found.false),
      c.in_default.ensures.none,
      λ l on. nothing c.attached_link.result l c.in_default-attached_link.is ((c.attached_link.ensures l).1 on.0),
    )
