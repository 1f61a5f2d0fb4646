-- At each index the count rises by one at most, and the sum by the index, which lies below 2 ^ 32.
use Rattle.std.proofs.Common.{◌*◌, ◌^◌, ◌≤◌}
use Rattle.calendar_dates.proofs.print_form.Given as goal

abbrev pub invariant-loop-index : goal.invariant-loop-index
invariant-loop-index g l = (l.count ≤ l.index) × (l.sum ≤ l.index * 2 ^ 32)
