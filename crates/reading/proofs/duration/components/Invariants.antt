use mathlib.Core.Path.{◌≡◌}
use Prim.Native.Nat.{◌≤◌}
use Rattle.reading.specs.Durations.{IsComponent, added_by, added_from, designators_in}
use Rattle.reading.proofs.duration.components.Given as goal

abbrev pub invariant-loop-place : goal.invariant-loop-place
invariant-loop-place l = record {
  count_le : l.progress.tally.count ≤ l.place;
  component : IsComponent l.progress.rest.now l.progress.component;
  added : added_by (designators_in l.first l.end) l.text l.fn.before l.first ≡ added_from (designators_in l.place l.end) l.progress l.place;
}
