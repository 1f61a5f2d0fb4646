use mathlib.Core.Path.{◌≡◌}
use mathlib.Core.List.{◌++◌}
use Prim.Native.Nat.{◌+◌, ◌-◌, ◌≤◌, ◌<◌}
use lib.ListN.{length, drop}
use Rattle.std.specs.Prelude.{Some, map}
use Rattle.lists.specs.Lists.{most_lists}
use Rattle.type_texts.specs.TypeTexts.{lists_of}
use Rattle.settings.proofs.type_text.read_all.Given as goal

abbrev pub invariant-loop-from : goal.invariant-loop-from
invariant-loop-from l =
    (length l.lists.items ≤ most_lists)
    × (l.from ≤ length l.text → lists_of l.text ≡ map Some l.lists.items ++ lists_of (drop l.from l.text))
    × (length l.text < l.from → lists_of l.text ≡ map Some l.lists.items)

abbrev pub decreases-loop-from : goal.decreases-loop-from
decreases-loop-from l = length l.text + 1 - l.from
