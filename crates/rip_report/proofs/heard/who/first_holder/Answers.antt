use Rattle.std.proofs.Common.{arith}
use Rattle.std.proofs.lemmas.Option.{slice_get_within}
use Rattle.rip_report.proofs.HeardLemmas.{its_link, none_more}
use Rattle.rip_report.proofs.heard.who.first_holder.Goals as goal

pub returns-then-has_address-clause-some : goal.returns-then-has_address-clause-some
returns-then-has_address-clause-some c =
    let x = c.interface.result in (
      c.loop-i.i,
      record {
        listed = c.interface.ensures.exact;
        has = (c.has_address.ensures x.router x.link x.cost c.interface.ensures.is).0 c.if-has_address.true;
        first = c.loop-i.invariant.none;
      },
    )

pub loop-i-preserved : goal.loop-i-preserved
loop-i-preserved c = record { none = none_more c.args.plan.now c.args.address c.loop-i.i c.has_address.result c.loop-i.invariant.none c.has_address.ensures c.if-has_address.false }

pub returns-clause-none : goal.returns-clause-none
returns-clause-none c = λ i l has.
    let n = c.args.plan.now in
    let is = (its_link n i l c.args.address has).2 in
    let within = slice_get_within n.interfaces i _ is.listed in
    c.loop-i.invariant.none i l (omega (arith, within, c.loop-i-test.false, c.loop-i.auto.i-end, c.interfaces-i-end.ensures)) has
