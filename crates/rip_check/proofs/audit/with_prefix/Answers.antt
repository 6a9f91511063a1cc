use Rattle.std.proofs.Common.{length, Some, None, ◌∙◌, refl}
use Rattle.rip_check.specs.Firsts.{CanBeRead}
use Rattle.rip_check.specs.Verdicts.{IsSound}
use Rattle.rip_check.proofs.FirstPlaceLemmas.{IsRouterOf, next_none, next_some}
use Rattle.rip_check.proofs.audit.with_prefix.Goals as goal
use Rattle.rip_check.proofs.audit.with_prefix.Goals.{in-Some-failing, in-None-failing}
use Rattle.rip_check.specs.Cases.{told_in}

pub returns-in-Some : goal.returns-in-Some
returns-in-Some g c =
    let n = c.args.case.now.plan.now in
    let was = rw c.in-Err.is at c.requires in
    next_some n c.args.case.now.prefix (CanBeRead n (told_in c.args.case.now))
    (Some (c.in-Err.router, c.in-Err.first)) c.in-Err.router refl was c.in-Some.sooner c.in-Some.ensures

pub returns-in-None : goal.returns-in-None
returns-in-None g c =
    let n = c.args.case.now.plan.now in
    let was = rw c.in-Err.is at c.requires in
    next_none n c.args.case.now.prefix (CanBeRead n (told_in c.args.case.now)) (Some (c.in-Err.router, c.in-Err.first)) c.in-Err.router refl was c.in-None.ensures

pub returns-in-Err-first_failing : goal.returns-in-Err-first_failing
returns-in-Err-first_failing g c =
    let n = c.args.case.now.plan.now in
    let was = rw c.in-Ok.is at c.requires in
    next_some n c.args.case.now.prefix (CanBeRead n (told_in c.args.case.now)) None
    (length n.routers) refl was.0 c.in-Err-first_failing.router c.in-Err-first_failing.ensures.unreadable

pub returns-in-Ok-Some : goal.returns-in-Ok-Some
returns-in-Ok-Some g c =
    let n = c.args.case.now.plan.now in
    let shown = (told_in c.args.case.now) in
    let was = rw c.in-Ok.is at c.requires in
    let router : IsRouterOf n c.in-Ok.failing c.match-failing.below = elim c.match-failing.branch [
      | in-Some-failing w ↦ rw w.in-Some-failing.is w.below-is
      | in-None-failing w ↦ rw w.in-None-failing.is (w.below-is ∙ w.routers-below.ensures)
    ] in
    let column = rw c.in-Ok-Some.field-0-is at c.in-Ok-Some.ensures.failing in (
      next_none n c.args.case.now.prefix (CanBeRead n shown) None (length n.routers) refl was.0 c.in-Ok-Some.ensures.readable,
      next_some n c.args.case.now.prefix (IsSound n shown) c.in-Ok.failing c.match-failing.below router was.1 c.in-Ok-Some.router column,
    )

pub returns-in-Ok-None : goal.returns-in-Ok-None
returns-in-Ok-None g c =
    let n = c.args.case.now.plan.now in
    let shown = (told_in c.args.case.now) in
    let was = rw c.in-Ok.is at c.requires in
    let router : IsRouterOf n c.in-Ok.failing c.match-failing.below = elim c.match-failing.branch [
      | in-Some-failing w ↦ rw w.in-Some-failing.is w.below-is
      | in-None-failing w ↦ rw w.in-None-failing.is (w.below-is ∙ w.routers-below.ensures)
    ] in
    let column = rw c.in-Ok-None.field-0-is at c.in-Ok-None.ensures.failing in (
      next_none n c.args.case.now.prefix (CanBeRead n shown) None (length n.routers) refl was.0 c.in-Ok-None.ensures.readable,
      next_none n c.args.case.now.prefix (IsSound n shown) c.in-Ok.failing c.match-failing.below router was.1 column,
    )
