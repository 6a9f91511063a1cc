use Rattle.std.proofs.Common.{◌≡◌, inl, refl, arith}
use Rattle.std.proofs.lemmas.Bool.{both_ways}
use Rattle.rip_check.specs.Cases.{block_of, told_in}
use Rattle.rip_check.proofs.ClosedLemmas.{open_link}
use Rattle.rip_check.proofs.links.fill.Goals as goal

pub returns-else-has_lists : goal.returns-else-has_lists
returns-else-has_lists g c =
    let case = c.args.case.now in
    record {
      size = omega (arith, c.requires, c.fill_all.auto.links);
      each = λ l two lt e. open_link case.plan.now (told_in case) case.prefix l two c.lawful.ensures.plan (inl (λ has. both_ways _ c.if-has_lists.false (c.has_lists.ensures.1 (l, has)))) (c.fill_all.ensures.free l two e) (c.fill_all.ensures.least l two e);
    }

pub returns-then-has_lists : goal.returns-then-has_lists
returns-then-has_lists g c =
    let case = c.args.case.now in
    let same : block_of case ≡ c.prefix.result = rw c.prefix.ensures refl in
    c.close.ensures (told_in case) case.prefix same c.fill_all.ensures.free c.fill_all.ensures.least
