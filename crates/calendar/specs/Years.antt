-- Years, as astronomical years: 0 is the year 0000, -1 the year -0001.
use Rattle.std.specs.Prelude.{ℕ, suc, ◌+◌, ◌-◌, Bool, not, ◌&&◌, ◌||◌, cond, ℤ, pos, negsuc, Option, Some, None}
use Rattle.std.proofs.Math.IntN.{sub_ℕ}
use Rattle.std.specs.Int.Signed.{le_z}
use Rattle.calendar.specs.Integers.{divisible}
use Rattle.calendar.specs.declared.years.Year.{Year}
use Rattle.calendar.specs.declared.years.Distance.{Distance}

-- The astronomical year that a `Year` stands for. What number it keeps is the calendar's own affair.
unfoldable pub astronomical_of : Year → ℤ
astronomical_of year = sub_ℕ year.number 4294967600

-- The `Year` of an astronomical year.
unfoldable pub year_at : ℤ → Year
year_at (pos k) = record { number = 4294967600 + k }
year_at (negsuc k) = record { number = 4294967600 - suc k }

-- A year's distance from the year 0000: -(k + 1) lies k + 1 years before it.
abbrev pub distance_of : ℤ → Distance
distance_of (pos k) = Distance.Since k
distance_of (negsuc k) = Distance.Before (suc k)

-- A year as 32 bits have it, or that they do not.
unfoldable pub in32 : ℤ → Option ℤ
in32 y = cond (le_z (negsuc 2147483647) y && le_z y (pos 2147483647)) (Some y) None

-- "Gregorian rule for all years, negative and 0000 too: leap when divisible by 4 and not by 100, or by 400."
unfoldable pub leap_of : ℤ → Bool
leap_of y = divisible y 4 && not (divisible y 100) || divisible y 400

-- "Ordinal day 1 to 365 or 366."
unfoldable pub year_length_of : ℤ → ℕ
year_length_of y = cond (leap_of y) 366 365
