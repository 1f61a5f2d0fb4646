use mathlib.Core.Path.{◌≡◌}
use lib.ListN.{length}
use Rattle.std.specs.Prelude.{Some, map}
use Rattle.type_texts.specs.TypeTexts.{distinct}
use Rattle.settings.proofs.joining.all_differ.Given as goal

abbrev pub invariant-loop-list : goal.invariant-loop-list
invariant-loop-list l = distinct (map Some l.lists) ≡ distinct (map Some l.left)

abbrev pub decreases-loop-list : goal.decreases-loop-list
decreases-loop-list l = length l.left
