use Rattle.std.proofs.Common.{rules, tests, arith, ◌≡◌, true, length, leb}
use Rattle.std.specs.List.{list_all}
use Rattle.std.proofs.lemmas.Bool.Decides.{nat_tests}
use Rattle.std.proofs.lemmas.Iterator.{YieldsList-from_slice}
use Rattle.std.proofs.lemmas.Iterator.Search.{all_from_yields_List}
use Rattle.rip_wire.specs.Name.{is_name_byte}
use Rattle.rip_wire.proofs.name.is_name.Goals as goal

pub returns-then-text-le32-clause-value : goal.returns-then-text-le32-clause-value
returns-then-text-le32-clause-value c =
    let all : c.all.result ≡ list_all is_name_byte c.args.text.now =
    all_from_yields_List is_name_byte _ _ _ c.all.ensures.ran (YieldsList-from_slice c.args.text.now cc) (λ x b q k. search (rules, tests)) in
    let low : leb 1 (length c.args.text.now) ≡ true = grind (arith, nat_tests, c.if-text-le32.true.0) in
    let high : leb (length c.args.text.now) 32 ≡ true = grind (arith, nat_tests, c.if-text-le32.true.1) in
    rw (low, high) all
