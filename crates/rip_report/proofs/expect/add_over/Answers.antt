use Rattle.std.proofs.Common.{◌≡◌, ℕ, List, ap, length, arith}
use Rattle.rip_plan.specs.Network.{is_of, numbers_where}
use Rattle.rip_report.proofs.ExpectLemmas.{its_number, link_is}
use Rattle.rip_report.proofs.OutLemmas.{added_also, one_more}
use Rattle.rip_report.proofs.expect.add_over.Goals as goal

pub interface-link-requires : goal.interface-link-requires
interface-link-requires g c = its_number c.args.plan.now c.args.router c.of_router-numbers.result.now c.of_router-numbers.ensures.exact c.loop-i.i-index c.loop-i-test.true

pub add_way-requires-clause-way : goal.add_way-requires-clause-way
add_way-requires-clause-way g c = c.lawful.ensures.link_known _ c.interface-link.result.router c.interface-link.result.link c.interface-link.result.cost c.interface-link.ensures.is

pub loop-i-preserved : goal.loop-i-preserved
loop-i-preserved g c =
    let n = c.args.plan.now in
    let link = link_is n c.args.router c.loop-i.i-index c.of_router-numbers.result.now c.interface-link.result c.of_router-numbers.ensures.value c.interface-link.ensures.exact in
    record { so_far = one_more _ c.loop-i.i-index c.loop-i.invariant.so_far (added_also (λ text is. rw link is) c.add_way.ensures) }

pub returns : goal.returns
returns g c =
    let n = c.args.plan.now in
    let count : length c.of_router-numbers.result.now ≡ length (numbers_where (is_of c.args.router) 0 n.interfaces) = ap (λ (xs : List ℕ). length xs) c.of_router-numbers.ensures.value in
    let all : c.loop-i.i-index ≡ length (numbers_where (is_of c.args.router) 0 n.interfaces) = omega (arith, c.loop-i-test.false, c.loop-i.auto.i-index-end, count) in
    rw all at c.loop-i.invariant.so_far
