use Rattle.std.proofs.Common.{◌≡◌, ◌≤◌, ◌<◌, ℕ, true, length, slice_index}
use Rattle.rip_log.specs.Fields.{is_blank}
use Rattle.rip_log.proofs.fields.end_of_rest.Given as goal

abbrev pub invariant-loop-to : goal.invariant-loop-to
invariant-loop-to l = record {
  after : l.from < l.to;
  within : l.to ≤ length l.line;
  blanks : (k : ℕ) → l.to ≤ k → k < length l.line → is_blank (slice_index l.line k) ≡ true;
}

abbrev pub decreases-loop-to : goal.decreases-loop-to
decreases-loop-to l = l.to
