use mathlib.Core.Path.{◌≡◌}
use Prim.Native.Nat.{◌+◌, ◌-◌, ◌≤◌, ◌<◌}
use lib.ListN.{length, drop}
use Rattle.std.specs.Prelude.{Some}
use Rattle.octets.specs.Pieces.{split_on}
use Rattle.lists.specs.Lists.{add_pairs, none_yet, settings}
use Rattle.lists.proofs.lists.read_pairs.Given as goal

abbrev pub invariant-loop-from : goal.invariant-loop-from
invariant-loop-from l =
    (l.from ≤ length l.s → add_pairs (settings none_yet) (split_on 32 l.s) ≡ add_pairs (Some l.list) (split_on 32 (drop l.from l.s)))
    × (length l.s < l.from → add_pairs (settings none_yet) (split_on 32 l.s) ≡ Some l.list)

abbrev pub decreases-loop-from : goal.decreases-loop-from
decreases-loop-from l = length l.s + 1 - l.from
