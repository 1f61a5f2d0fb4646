-- Year settings: each with its word, its number, its row of Table 2 and its years, said once for all crates.
use Rattle.std.specs.Prelude.{ℕ, ◌-◌, ◌^◌, Bool, false, ◌&&◌, ◌||◌, cond, List, [], ◌∷◌, eqb, leb, ltb, ℤ, pos, negsuc, nat_abs}
use Prim.Native.String.{String}
use Rattle.std.specs.Int.Signed.{le_z}
use Rattle.types.specs.declared.years.YearRow.{YearRow}
use Rattle.types.specs.declared.years.YearSetting.{YearSetting}
use Rattle.types.specs.declared.years.Years.{Years}

-- "`Year`: Basic, Proleptic, Negative, L5", and "`Year=L6` to `L9`" (#103).
abbrev pub year_settings : List YearSetting
year_settings =
    YearSetting.Basic ∷ YearSetting.Proleptic ∷ YearSetting.Negative ∷ YearSetting.L5 ∷ YearSetting.L6 ∷ YearSetting.L7 ∷ YearSetting.L8 ∷ YearSetting.L9 ∷ []

-- "`Property=Setting`": its word.
abbrev pub year_word : YearSetting → String
year_word YearSetting.Basic = "Year=Basic"
year_word YearSetting.Proleptic = "Year=Proleptic"
year_word YearSetting.Negative = "Year=Negative"
year_word YearSetting.L5 = "Year=L5"
year_word YearSetting.L6 = "Year=L6"
year_word YearSetting.L7 = "Year=L7"
year_word YearSetting.L8 = "Year=L8"
year_word YearSetting.L9 = "Year=L9"

-- Its place among them, from 1.
abbrev pub year_number : YearSetting → ℕ
year_number YearSetting.Basic = 1
year_number YearSetting.Proleptic = 2
year_number YearSetting.Negative = 3
year_number YearSetting.L5 = 4
year_number YearSetting.L6 = 5
year_number YearSetting.L7 = 6
year_number YearSetting.L8 = 7
year_number YearSetting.L9 = 8

-- The Year setting with a number from 1 to 8.
unfoldable pub year_setting_at : ℕ → YearSetting
year_setting_at n =
    cond (eqb n 1) YearSetting.Basic
    (cond (eqb n 2) YearSetting.Proleptic
    (cond (eqb n 3) YearSetting.Negative
    (cond (eqb n 4) YearSetting.L5
    (cond (eqb n 5) YearSetting.L6
    (cond (eqb n 6) YearSetting.L7
    (cond (eqb n 7) YearSetting.L8 YearSetting.L9))))))

-- Its row of Table 2: "Year, Basic or Proleptic", or "Year, Negative or L5", where L5 to L9 are alike ("Negative or Ln", X.691 Table 2).
abbrev pub row_of_year : YearSetting → YearRow
row_of_year YearSetting.Basic = YearRow.Year
row_of_year YearSetting.Proleptic = YearRow.Year
row_of_year YearSetting.Negative = YearRow.AnyYear
row_of_year YearSetting.L5 = YearRow.AnyYear
row_of_year YearSetting.L6 = YearRow.AnyYear
row_of_year YearSetting.L7 = YearRow.AnyYear
row_of_year YearSetting.L8 = YearRow.AnyYear
row_of_year YearSetting.L9 = YearRow.AnyYear

-- A year from the lowest to the highest.
unfoldable pub between : ℤ → ℤ → ℤ → Bool
between lowest highest y = le_z lowest y && le_z y highest

-- "L5 (five digits after a sign, first digit not 0)", and so for each number of digits.
unfoldable pub in_long : ℕ → ℤ → Bool
in_long digits y = leb (10 ^ (digits - 1)) (nat_abs y) && ltb (nat_abs y) (10 ^ digits)

-- "`Year`: Basic (1582 to 9999), Proleptic (0000 to 1581), Negative (-9999 to -0001), L5"; `negsuc k` is -(k + 1).
abbrev pub in_setting : YearSetting → ℤ → Bool
in_setting YearSetting.Basic y = between (pos 1582) (pos 9999) y
in_setting YearSetting.Proleptic y = between (pos 0) (pos 1581) y
in_setting YearSetting.Negative y = between (negsuc 9998) (negsuc 0) y
in_setting YearSetting.L5 y = in_long 5 y
in_setting YearSetting.L6 y = in_long 6 y
in_setting YearSetting.L7 y = in_long 7 y
in_setting YearSetting.L8 y = in_long 8 y
in_setting YearSetting.L9 y = in_long 9 y

-- Whether a type names a Year setting: those that it names are of one row.
abbrev pub names : Years → YearSetting → Bool
names (Years.Plain y) YearSetting.Basic = y.basic
names (Years.Plain y) YearSetting.Proleptic = y.proleptic
names (Years.Plain y) YearSetting.Negative = false
names (Years.Plain y) YearSetting.L5 = false
names (Years.Plain y) YearSetting.L6 = false
names (Years.Plain y) YearSetting.L7 = false
names (Years.Plain y) YearSetting.L8 = false
names (Years.Plain y) YearSetting.L9 = false
names (Years.Signed y) YearSetting.Basic = false
names (Years.Signed y) YearSetting.Proleptic = false
names (Years.Signed y) YearSetting.Negative = y.negative
names (Years.Signed y) YearSetting.L5 = y.five
names (Years.Signed y) YearSetting.L6 = y.six
names (Years.Signed y) YearSetting.L7 = y.seven
names (Years.Signed y) YearSetting.L8 = y.eight
names (Years.Signed y) YearSetting.L9 = y.nine

-- The row of the Year settings that a type names.
abbrev pub years_row : Years → YearRow
years_row (Years.Plain y) = YearRow.Year
years_row (Years.Signed y) = YearRow.AnyYear

-- Each row by a number.
abbrev pub row_number : YearRow → ℕ
row_number YearRow.Year = 1
row_number YearRow.AnyYear = 2

-- Whether some Year setting passes a test.
abbrev pub any_of : (YearSetting → Bool) → List YearSetting → Bool
any_of p [] = false
any_of p (s ∷ l) = p s || any_of p l

-- `Year` is "present exactly when the value has a date": some Year is named.
unfoldable pub some_year : Years → Bool
some_year years = any_of (names years) year_settings

-- "each year is of a Year setting that the type names"
unfoldable pub in_years : Years → ℤ → Bool
in_years years y = any_of (λ s. names years s && in_setting s y) year_settings
