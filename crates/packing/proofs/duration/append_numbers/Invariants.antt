use mathlib.Core.Path.{◌≡◌}
use mathlib.Core.List.{◌++◌}
use Prim.Native.Nat.{◌+◌, ◌*◌, ◌≤◌}
use lib.ListN.{drop}
use Rattle.fields.specs.Bits.{BitString}
use Rattle.fields.specs.Fields.{layout}
use Rattle.durations.specs.Durations.{parts_of}
use Rattle.durations.specs.Fields.{roots, number_fields}
use Rattle.packing.specs.Waiting.{Added, waiting_count}
use Rattle.packing.proofs.duration.append_numbers.Given as goal

abbrev pub invariant-loop-place : goal.invariant-loop-place
invariant-loop-place l = record {
  bits : BitString;
  added : Added l.initial.out l.initial.so_far bits l.out l.so_far;
  all : bits ++ layout (number_fields (drop l.place roots) (drop l.place (parts_of l.duration))) ≡ layout (number_fields roots (parts_of l.duration));
  most : waiting_count l.so_far ≤ waiting_count l.initial.so_far + 41 * l.place;
}
