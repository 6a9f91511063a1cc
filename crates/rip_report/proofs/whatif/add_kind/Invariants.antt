use Rattle.std.proofs.Common.{◌≤◌}
use Rattle.rip_check.specs.Expected.{IsCount}
use Rattle.rip_check.specs.Impacts.{HasRoom}
use Rattle.rip_report.specs.Listings.{TextsBelow}
use Rattle.rip_report.specs.Outs.{AddsOne}
use Rattle.rip_report.specs.WhatifText.{LosesOne, OneText}
use Rattle.rip_report.proofs.whatif.add_kind.Given as goal

abbrev pub invariant-loop-number : goal.invariant-loop-number
invariant-loop-number g l = record {
  so_far : AddsOne l.fn.out l.out (TextsBelow (OneText l.plan l.all l.kind) l.number);
  room : HasRoom l.plan l.aftermath;
  counted : IsCount (LosesOne l.plan l.kind) l.number l.count;
  few : l.count ≤ l.number;
}
