use Rattle.std.proofs.Common.{◌∙◌, Option, refl, subst, sym}
use Rattle.std.proofs.lemmas.Bool.{false≢true}
use Rattle.rip_capture.specs.NextCall.{frame_of}
use Rattle.rip_capture.specs.Origins.{origin_in}
use Rattle.rip_capture.specs.Pcap.{Frame}
use Rattle.rip_report.specs.CapturePackets.{KeepsFirst}
use Rattle.rip_report.specs.Selections.IsLogged.{own, mixed, other}
use Rattle.rip_report.proofs.SelectionLemmas.{comes-unknown, mixed-first, other-first}
use Rattle.rip_report.proofs.captures.selection.logged.Goals as goal

pub returns-then-not-passes-clause-logged : goal.returns-then-not-passes-clause-logged
returns-then-not-passes-clause-logged c = λ seen keeps. (
  other (λ passes. false≢true (sym c.if-not-passes.true ∙ c.passes.ensures.1 passes)) refl,
  subst (λ (o : Option Frame). KeepsFirst o (origin_in c.args.first.now)) (sym (other-first seen (frame_of c.args.packet.now))) keeps,
)

pub returns-then-comes_from-clause-logged : goal.returns-then-comes_from-clause-logged
returns-then-comes_from-clause-logged c = λ seen keeps.
    let both = c.comes_from.ensures seen keeps in
    (own (c.passes.ensures.0 c.if-not-passes.false) (both.0.0 c.if-comes_from.true) refl, both.1)

pub returns-in-Some-clause-logged : goal.returns-in-Some-clause-logged
returns-in-Some-clause-logged c = λ seen keeps.
    let both = c.comes_from.ensures seen keeps in
    let known = sym c.sender_of.ensures ∙ c.in-Some.is in (
      mixed c.in-Some.sender (c.passes.ensures.0 c.if-not-passes.false) (λ comes. false≢true (sym c.if-comes_from.false ∙ both.0.1 comes)) known refl,
      subst (λ (o : Option Frame). KeepsFirst o (origin_in c.comes_from.new.first)) (mixed-first seen (frame_of c.args.packet.now) c.args.carried c.in-Some.sender known) both.1,
    )

pub returns-in-None-clause-logged : goal.returns-in-None-clause-logged
returns-in-None-clause-logged c = λ seen keeps.
    let both = c.comes_from.ensures seen keeps in
    absurd (false≢true (sym c.if-comes_from.false ∙ both.0.1 (comes-unknown seen (frame_of c.args.packet.now) c.args.carried (sym c.sender_of.ensures ∙ c.in-None.is))))
