use Rattle.std.proofs.Common.{◌≡◌, ◌++◌, ◌∙◌, ℕ, List, true, nat_le, ap, arith, drop, length, replicate}
use Rattle.std.proofs.lemmas.Bool.{le-leb}
use Rattle.std.proofs.lemmas.List.{drop-replicate}
use Rattle.rip_capture.specs.declared.interface.InterfaceName.{InterfaceName}
use Rattle.rip_capture.proofs.interface.InterfaceName.of.Goals as goal

pub returns : goal.returns
returns c =
    let v = c.args.value.now in
    let n = length v in
    let small : nat_le n 64 ≡ true = le-leb n 64 (omega (arith, c.if-value-gt-MOST_NAME.false)) in
    let made : List ℕ → InterfaceName = λ l. record { bytes = l; len = n } in
    rw small (ap (λ (l : List ℕ). made (l ++ drop n (replicate 64 0))) c.copy_from_slice.ensures.after ∙ ap (λ (l : List ℕ). made (v ++ l)) (drop-replicate n 64 0))
