use Rattle.std.proofs.Common.{◌≡◌, ◌-◌}
use Rattle.rip_table.proofs.FrontLemmas.{front}
use Rattle.rip_table.proofs.grid.window.pass_marks.Given as goal

abbrev pub invariant-loop-i : goal.invariant-loop-i
invariant-loop-i l = l.heard.items ≡ front l.i (λ left. left - 1) l.fn.heard.items
