-- "The calendar keeps month lengths in one table, a row for common years and a row for leap years."
use Rattle.std.specs.Prelude.{ℕ, zero, suc, cond, List, [], ◌∷◌, get_or, ℤ}
use Rattle.calendar.specs.Years.{leap_of}

-- The days of each month of a common year.
abbrev pub common_row : List ℕ
common_row = 31 ∷ 28 ∷ 31 ∷ 30 ∷ 31 ∷ 30 ∷ 31 ∷ 31 ∷ 30 ∷ 31 ∷ 30 ∷ 31 ∷ []

-- The days of each month of a leap year.
abbrev pub leap_row : List ℕ
leap_row = 31 ∷ 29 ∷ 31 ∷ 30 ∷ 31 ∷ 30 ∷ 31 ∷ 31 ∷ 30 ∷ 31 ∷ 30 ∷ 31 ∷ []

-- The days of month 1 to 12 of year y, and 0 for any other number: months count from 1, places in a row from 0.
unfoldable pub month_length_of : ℤ → ℕ → ℕ
month_length_of y zero = 0
month_length_of y (suc m) = get_or (cond (leap_of y) leap_row common_row) m 0
