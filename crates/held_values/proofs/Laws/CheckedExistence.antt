-- Checked values of which times exist: one table, closed by computation.
use mathlib.Core.Path.{◌≡◌, refl}
use mathlib.Core.Bool.{Bool, true, false, beq, ◌&&◌}
use mathlib.Core.List.{List, [], ◌∷◌}
use Prim.Native.Nat.{ℕ}
use Rattle.texts.specs.declared.values.Clock.{Clock}
use Rattle.texts.specs.declared.values.Zone.{Zone}
use Rattle.held_values.specs.Existence.{exists_clock, exists_difference, exists_fraction, exists_leap, exists_time, less_difference}

-- so far ahead of UTC, and so far behind it
abbrev ahead : ℕ → ℕ → Zone
ahead hours minutes = Zone.LD (record { behind = false; hours = hours; minutes = minutes })

abbrev behind : ℕ → ℕ → Zone
behind hours minutes = Zone.LD (record { behind = true; hours = hours; minutes = minutes })

-- a clock, the digits and the number of its fraction, its zone, and whether there is such a time
data Row : Type 0 where
  time : Clock → ℕ → ℕ → Zone → Bool → Row

rows : List Row
rows =
    time (Clock.H 0) 0 0 Zone.L true ∷
    time (Clock.H 23) 0 0 Zone.L true ∷
    time (Clock.H 24) 0 0 Zone.L true ∷
    time (Clock.H 25) 0 0 Zone.L false ∷
    time (Clock.HM 23 59) 0 0 Zone.L true ∷
    time (Clock.HM 23 60) 0 0 Zone.L false ∷
    time (Clock.HM 24 0) 0 0 Zone.L true ∷
    time (Clock.HM 24 1) 0 0 Zone.L false ∷
    time (Clock.HMS 24 0 0) 0 0 Zone.L true ∷
    time (Clock.HMS 24 0 1) 0 0 Zone.L false ∷
    time (Clock.HMS 24 1 0) 0 0 Zone.L false ∷
    time (Clock.HMS 23 59 60) 0 0 Zone.L true ∷
    time (Clock.HMS 12 34 60) 0 0 Zone.L true ∷
    time (Clock.HMS 12 34 61) 0 0 Zone.L false ∷
    time (Clock.HMS 12 60 0) 0 0 Zone.L false ∷
    time (Clock.HMS 25 0 0) 0 0 Zone.L false ∷
    time (Clock.H 24) 1 0 Zone.L true ∷
    time (Clock.H 24) 1 1 Zone.L false ∷
    time (Clock.HM 24 0) 1 1 Zone.L false ∷
    time (Clock.HMS 24 0 0) 3 0 Zone.L true ∷
    time (Clock.HMS 24 0 0) 3 1 Zone.L false ∷
    time (Clock.H 12) 0 1 Zone.L false ∷
    time (Clock.H 12) 1 9 Zone.L true ∷
    time (Clock.H 12) 1 10 Zone.L false ∷
    time (Clock.HMS 15 27 46) 3 500 Zone.L true ∷
    time (Clock.HMS 15 27 46) 3 1000 Zone.L false ∷
    time (Clock.HMS 23 59 60) 9 999999999 Zone.L true ∷
    time (Clock.HMS 23 59 60) 9 1000000000 Zone.L false ∷
    time (Clock.H 12) 10 0 Zone.L false ∷
    time (Clock.H 12) 0 0 (ahead 0 0) true ∷
    time (Clock.H 12) 0 0 (ahead 0 30) true ∷
    time (Clock.H 12) 0 0 (ahead 0 59) true ∷
    time (Clock.H 12) 0 0 (ahead 15 0) true ∷
    time (Clock.H 12) 0 0 (ahead 15 59) true ∷
    time (Clock.H 12) 0 0 (ahead 15 60) false ∷
    time (Clock.H 12) 0 0 (ahead 16 0) false ∷
    time (Clock.H 12) 0 0 (behind 0 0) false ∷
    time (Clock.H 12) 0 0 (behind 0 30) false ∷
    time (Clock.H 12) 0 0 (behind 1 0) true ∷
    time (Clock.H 12) 0 0 (behind 15 59) true ∷
    time (Clock.H 12) 0 0 (behind 15 60) false ∷
    time (Clock.H 12) 0 0 (behind 16 0) false ∷
    time (Clock.H 12) 0 0 Zone.Z true ∷
    -- #102: second 60 with Z
    time (Clock.HMS 23 59 60) 0 0 Zone.Z true ∷
    time (Clock.HMS 12 34 60) 0 0 Zone.Z false ∷
    time (Clock.HMS 23 58 60) 0 0 Zone.Z false ∷
    time (Clock.HMS 0 0 60) 0 0 Zone.Z false ∷
    time (Clock.HMS 22 59 60) 0 0 Zone.Z false ∷
    time (Clock.HMS 24 59 60) 0 0 Zone.Z false ∷
    time (Clock.HMS 23 59 61) 0 0 Zone.Z false ∷
    time (Clock.HMS 12 34 59) 0 0 Zone.Z true ∷
    time (Clock.HMS 23 59 60) 9 999999999 Zone.Z true ∷
    time (Clock.HMS 12 34 60) 1 0 Zone.Z false ∷
    -- with a difference, around the day
    time (Clock.HMS 5 29 60) 0 0 (ahead 5 30) true ∷
    time (Clock.HMS 5 30 60) 0 0 (ahead 5 30) false ∷
    time (Clock.HMS 5 28 60) 0 0 (ahead 5 30) false ∷
    time (Clock.HMS 4 59 60) 0 0 (ahead 5 30) false ∷
    time (Clock.HMS 18 29 60) 0 0 (ahead 5 30) false ∷
    time (Clock.HMS 23 59 60) 0 0 (ahead 5 30) false ∷
    time (Clock.HMS 23 59 60) 0 0 (ahead 0 0) true ∷
    time (Clock.HMS 0 0 60) 0 0 (ahead 0 0) false ∷
    time (Clock.HMS 0 0 60) 0 0 (ahead 0 1) true ∷
    time (Clock.HMS 23 59 60) 0 0 (ahead 0 1) false ∷
    time (Clock.HMS 0 59 60) 0 0 (ahead 1 0) true ∷
    time (Clock.HMS 23 59 60) 0 0 (ahead 1 0) false ∷
    time (Clock.HMS 22 59 60) 0 0 (ahead 1 0) false ∷
    time (Clock.HMS 15 58 60) 0 0 (ahead 15 59) true ∷
    time (Clock.HMS 15 59 60) 0 0 (ahead 15 59) false ∷
    time (Clock.HMS 15 59 60) 0 0 (ahead 16 0) false ∷
    time (Clock.HMS 24 59 60) 0 0 (ahead 1 0) false ∷
    time (Clock.HMS 18 59 60) 0 0 (behind 5 0) true ∷
    time (Clock.HMS 18 29 60) 0 0 (behind 5 30) true ∷
    time (Clock.HMS 5 29 60) 0 0 (behind 5 30) false ∷
    time (Clock.HMS 23 59 60) 0 0 (behind 5 0) false ∷
    time (Clock.HMS 4 59 60) 0 0 (behind 5 0) false ∷
    time (Clock.HMS 22 59 60) 0 0 (behind 1 0) true ∷
    time (Clock.HMS 0 59 60) 0 0 (behind 1 0) false ∷
    time (Clock.HMS 8 0 60) 0 0 (behind 15 59) true ∷
    time (Clock.HMS 8 1 60) 0 0 (behind 15 59) false ∷
    time (Clock.HMS 23 59 60) 0 0 (behind 0 0) false ∷
    time (Clock.HMS 23 29 60) 0 0 (behind 0 30) false ∷
    time (Clock.HMS 7 59 60) 0 0 (behind 16 0) false ∷
    time (Clock.HMS 5 29 60) 3 500 (ahead 5 30) true ∷
    time (Clock.HMS 5 30 60) 3 500 (ahead 5 30) false ∷
    time (Clock.HMS 5 30 59) 0 0 (ahead 5 30) true ∷
    []

all_right : List Row → Bool
all_right [] = true
all_right (time clock digits fraction zone exists ∷ l) =
    beq (exists_time (record { clock = clock; digits = digits; fraction = fraction; zone = zone })) exists && all_right l

times_checked : all_right rows ≡ true
unfolding rows all_right exists_time exists_clock exists_fraction exists_difference less_difference exists_leap
times_checked = refl
