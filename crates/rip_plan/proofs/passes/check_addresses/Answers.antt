use Rattle.std.proofs.Common.{◌≡◌, Ok, sym}
use Rattle.rip_plan.specs.declared.error.PlanCode.TheVariants as codes
use Rattle.rip_plan.specs.Draft.{Sketch, sketch}
use Rattle.rip_plan.specs.Passes.{neighbours_gateway_in, none_found, taken_address_in}
use Rattle.rip_plan.proofs.passes.check_addresses.Goals as goal

pub returns : goal.returns
returns c =
    let s : Sketch = sketch c.args.draft.now in
    let taken : none_found codes.DuplicateAddress (taken_address_in s.interfaces s.also) ≡ Ok tt =
    rw (c.in_ok-taken.ensures, c.as_slice-2.ensures.value, c.in_ok-held.ensures, c.as_slice-interfaces.ensures.value, c.as_slice.ensures.value) at c.in_ok-expect_none.ensures in
    let gateway : c.first_neighbours_gateway-gateway.result ≡ neighbours_gateway_in s.interfaces s.also s.places =
    rw (c.as_slice-3.ensures.value, c.in_ok-held.ensures, c.as_slice-interfaces.ensures.value, c.as_slice.ensures.value, c.as_slice-4.ensures.value) at c.first_neighbours_gateway-gateway.ensures in
    rw (taken, sym gateway) c.expect_none-2.ensures
