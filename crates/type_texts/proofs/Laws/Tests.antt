-- Tests that hold together.
use mathlib.Core.Path.{◌≡◌, refl}
use mathlib.Core.Bool.{Bool, true, false, ◌&&◌, false≢true}

-- Of five tests that hold together each holds.
pub five_hold : (a b c d e : Bool) → a && b && c && d && e ≡ true → (a ≡ true) × (b ≡ true) × (c ≡ true) × (d ≡ true) × (e ≡ true)
five_hold true true true true true h = (refl, refl, refl, refl, refl)
five_hold true true true true false h = absurd (false≢true h)
five_hold true true true false e h = absurd (false≢true h)
five_hold true true false d e h = absurd (false≢true h)
five_hold true false c d e h = absurd (false≢true h)
five_hold false b c d e h = absurd (false≢true h)
