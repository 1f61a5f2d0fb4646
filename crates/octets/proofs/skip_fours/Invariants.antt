-- What is left is not longer than the text, and tells how many octets stand before the first such one.
use mathlib.Core.Path.{◌≡◌}
use Prim.Native.Nat.{◌+◌, ◌-◌, ◌≤◌}
use lib.ListN.{length}
use Rattle.octets.specs.Pieces.{span_to}
use Rattle.octets.proofs.skip_fours.Given as goal

abbrev pub invariant-loop-left : goal.invariant-loop-left
invariant-loop-left l = (length l.left ≤ length l.s) × (span_to l.octet l.s ≡ (length l.s - length l.left) + span_to l.octet l.left)

abbrev pub decreases-loop-left : goal.decreases-loop-left
decreases-loop-left l = length l.left
