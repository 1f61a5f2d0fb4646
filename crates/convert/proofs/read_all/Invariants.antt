-- What is held is no longer than a line.
use Rattle.std.proofs.Common.{◌≤◌}
use Rattle.line_replies.specs.Lines.{longest_line}
use Rattle.convert.specs.Unfinished.{held_of}
use Rattle.convert.proofs.read_all.Given as goal

abbrev pub invariant-loop : goal.invariant-loop
invariant-loop g l = held_of l.line ≤ longest_line
