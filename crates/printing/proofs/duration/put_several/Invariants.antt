use Prim.Native.Nat.{ℕ, ◌+◌, ◌-◌, ◌*◌, ◌≤◌}
use mathlib.Core.List.{List}
use Rattle.octets.specs.Stores.{StoredText}
use Rattle.printing.specs.Durations.{between, designators, put_earlier}
use Rattle.printing.proofs.duration.put_several.Given as goal

abbrev pub invariant-loop-place : goal.invariant-loop-place
invariant-loop-place l = record {
  place : l.p ≤ l.at + 10 * (l.place - l.first);
  text : (m : List ℕ) (r : ℕ) → StoredText l.b m l.p (put_earlier (between l.place l.end designators) (between l.place l.end l.numbers)) r
      → StoredText l.initial.b m l.at (put_earlier (between l.first l.end designators) (between l.first l.end l.numbers)) r;
}
