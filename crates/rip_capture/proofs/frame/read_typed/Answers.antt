use Rattle.std.proofs.Common.{arith, sym, refl, ◌∙◌, ◌+◌, ◌≤◌, ap, length, inr}
use Rattle.rip_capture.specs.Frames.{is_tag}
use Rattle.rip_capture.specs.Frames.Leads.{ipv4, other, cut, tag}
use Rattle.rip_capture.specs.declared.frame.Network.TheVariants.{Ip, Short, Other}
use Rattle.rip_capture.proofs.frame.read_typed.Goals as goal

pub tags-init : goal.tags-init
tags-init c = record { leads = λ held h. h; behind = c.requires; within = omega (arith, c.if-frame-header.false) }

pub tags-preserved : goal.tags-preserved
tags-preserved c = let room : c.tags.from + 4 ≤ length c.args.frame.now = omega (arith, c.if-frame-from-lt-TAG.false, c.tags.invariant.within) in record {
  leads = λ held h. c.tags.invariant.leads held (tag c.tags.at c.tags.from held (ap is_tag (sym c.u16_at.ensures) ∙ sym c.is_tag.ensures ∙ c.tags-test.true) room h);
  behind = omega arith;
  within = omega (arith, room);
}

pub returns-then-frame-from-lt-TAG-clause-holds : goal.returns-then-frame-from-lt-TAG-clause-holds
returns-then-frame-from-lt-TAG-clause-holds c =
    let is = ap is_tag (sym c.u16_at.ensures) ∙ sym c.is_tag.ensures ∙ c.tags-test.true in
    inr (c.if-frame-header.false, c.tags.invariant.leads Short (cut c.tags.at c.tags.from Short is (omega (arith, c.if-frame-from-lt-TAG.true, c.tags.invariant.within)) refl))

pub returns-then-u16_at-eq-IPV4-clause-holds : goal.returns-then-u16_at-eq-IPV4-clause-holds
returns-then-u16_at-eq-IPV4-clause-holds c =
    inr (c.if-frame-header.false, c.tags.invariant.leads (Ip c.tags.from) (ipv4 c.tags.at c.tags.from (Ip c.tags.from) (sym c.u16_at-2.ensures ∙ c.if-u16_at-eq-IPV4.true) refl))

pub returns-else-u16_at-eq-IPV4-clause-holds : goal.returns-else-u16_at-eq-IPV4-clause-holds
returns-else-u16_at-eq-IPV4-clause-holds c =
    let is = ap is_tag (sym c.u16_at.ensures) ∙ sym c.is_tag.ensures ∙ c.tags-test.false in
    inr (c.if-frame-header.false, c.tags.invariant.leads Other (other c.tags.at c.tags.from Other is (λ e. c.if-u16_at-eq-IPV4.false (c.u16_at-2.ensures ∙ e)) refl))
