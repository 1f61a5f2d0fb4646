use mathlib.Core.Path.{◌≡◌}
use mathlib.Core.List.{◌++◌}
use lib.ListN.{drop}
use Rattle.fields.specs.Fields.{layout}
use Rattle.durations.specs.Durations.{parts_of}
use Rattle.durations.specs.Fields.{presences as presencesOf}
use Rattle.packing.specs.Groups.{group_bits}
use Rattle.packing.proofs.duration.presences.Given as goal

abbrev pub invariant-loop-place : goal.invariant-loop-place
invariant-loop-place l = record {
  width : l.group.width.count ≡ l.place;
  bits : group_bits l.group ++ layout (presencesOf (drop l.place (parts_of l.duration))) ≡ layout (presencesOf (parts_of l.duration));
}
