use mathlib.Core.Path.{◌≡◌}
use mathlib.Core.List.{◌++◌}
use Prim.Native.Nat.{◌+◌, ◌*◌, ◌≤◌}
use lib.ListN.{length, take, drop}
use Rattle.octets.specs.Found.{found, onward}
use Rattle.fields.specs.Readings.{run}
use Rattle.durations.specs.Parts.{numbers as numbersIn}
use Rattle.durations.specs.Fields.{roots}
use Rattle.durations.specs.Readings.{read_numbers}
use Rattle.unpacking.specs.Durations.{after_presences, bits_in}
use Rattle.unpacking.specs.Steps.{rest}
use Rattle.unpacking.proofs.Laws.Components.{parts_to}
use Rattle.unpacking.proofs.duration.numbers.Given as goal

abbrev pub invariant-loop-place : goal.invariant-loop-place
invariant-loop-place l = record {
  near : l.at.count ≤ 8 + 41 * l.place;
  count : length l.values ≡ 7;
  left : after_presences l.fn.octets (read_numbers roots (bits_in l.fn.bits))
      ≡ onward (run (read_numbers (drop l.place roots) (drop l.place (bits_in l.fn.bits))) (rest l.fn.octets l.at))
      (λ ps u. found (parts_to l.place (bits_in l.fn.bits) l.values ++ ps) u);
  zeros : numbersIn (parts_to l.place (bits_in l.fn.bits) l.values) ≡ take l.place l.values;
}
