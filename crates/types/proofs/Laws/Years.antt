-- Year settings: told apart by their numbers, of one row where a type names them, and each year of at most one of them.
use mathlib.Core.Path.{◌≡◌, refl, ap}
use mathlib.Core.Bool.{Bool, true, false, ◌||◌, or-true, or-false, false≢true}
use mathlib.Core.List.{List, [], ◌∷◌}
use lib.Dec.{eqb}
use Rattle.types.specs.Years.{any_of, names, row_number, row_of_year, some_year, year_setting_at, year_number, year_settings, years_row}
use Rattle.types.specs.contracts.years.YearRowPartialEq.TheImpl as rows
use Rattle.types.specs.declared.years.PlainYears.{PlainYears}
use Rattle.types.specs.declared.years.SignedYears.{SignedYears}
use Rattle.types.specs.declared.years.YearRow.{YearRow}
use Rattle.types.specs.declared.years.YearSetting.{YearSetting}
use Rattle.types.specs.declared.years.Years.{Years}

-- ---- numbers and rows

-- The Year setting of a Year setting's number is that setting.
pub year_back : (y : YearSetting) → year_setting_at (year_number y) ≡ y
unfolding year_setting_at
year_back YearSetting.Basic = refl
year_back YearSetting.Proleptic = refl
year_back YearSetting.Negative = refl
year_back YearSetting.L5 = refl
year_back YearSetting.L6 = refl
year_back YearSetting.L7 = refl
year_back YearSetting.L8 = refl
year_back YearSetting.L9 = refl

-- Two rows are one exactly where their numbers are.
pub row_test : (a b : YearRow) → (rows.ghosts).eq a b ≡ eqb (row_number a) (row_number b)
row_test YearRow.Year YearRow.Year = refl
row_test YearRow.Year YearRow.AnyYear = refl
row_test YearRow.AnyYear YearRow.Year = refl
row_test YearRow.AnyYear YearRow.AnyYear = refl

-- The Year settings that a type names are of its row.
pub named_row : (years : Years) (y : YearSetting) → names years y ≡ true → row_of_year y ≡ years_row years
named_row (Years.Plain z) YearSetting.Basic h = refl
named_row (Years.Plain z) YearSetting.Proleptic h = refl
named_row (Years.Plain z) YearSetting.Negative h = absurd (false≢true h)
named_row (Years.Plain z) YearSetting.L5 h = absurd (false≢true h)
named_row (Years.Plain z) YearSetting.L6 h = absurd (false≢true h)
named_row (Years.Plain z) YearSetting.L7 h = absurd (false≢true h)
named_row (Years.Plain z) YearSetting.L8 h = absurd (false≢true h)
named_row (Years.Plain z) YearSetting.L9 h = absurd (false≢true h)
named_row (Years.Signed z) YearSetting.Basic h = absurd (false≢true h)
named_row (Years.Signed z) YearSetting.Proleptic h = absurd (false≢true h)
named_row (Years.Signed z) YearSetting.Negative h = refl
named_row (Years.Signed z) YearSetting.L5 h = refl
named_row (Years.Signed z) YearSetting.L6 h = refl
named_row (Years.Signed z) YearSetting.L7 h = refl
named_row (Years.Signed z) YearSetting.L8 h = refl
named_row (Years.Signed z) YearSetting.L9 h = refl

-- ---- some setting passes a test

-- A test that a Year setting passes.
pub any-of : (p : YearSetting → Bool) (y : YearSetting) → p y ≡ true → any_of p year_settings ≡ true
any-of p YearSetting.Basic h = simp h
any-of p YearSetting.Proleptic h = simp (h, or-true)
any-of p YearSetting.Negative h = simp (h, or-true)
any-of p YearSetting.L5 h = simp (h, or-true)
any-of p YearSetting.L6 h = simp (h, or-true)
any-of p YearSetting.L7 h = simp (h, or-true)
any-of p YearSetting.L8 h = simp (h, or-true)
any-of p YearSetting.L9 h = simp (h, or-true)

-- A test that some of these pass.
pub of_any : (p : YearSetting → Bool) (l : List YearSetting) → any_of p l ≡ true → (y : YearSetting) × (p y ≡ true)
of_any p [] h = absurd (false≢true h)
of_any p (y ∷ l) h = go (p y) refl h (of_any p l)
  where
    go : (b : Bool) → p y ≡ b → (b || any_of p l) ≡ true → (any_of p l ≡ true → (z : YearSetting) × (p z ≡ true)) → (z : YearSetting) × (p z ≡ true)
    go true e k f = (y, e)
    go false e k f = f k

pub some_named : (years : Years) (y : YearSetting) → names years y ≡ true → some_year years ≡ true
unfolding some_year
some_named years y h = any-of (names years) y h

pub named_some : (years : Years) → some_year years ≡ true → (y : YearSetting) × (names years y ≡ true)
unfolding some_year
named_some years h = of_any (names years) year_settings h

pub some_plain : (y : PlainYears) → some_year (Years.Plain y) ≡ y.basic || y.proleptic
unfolding some_year
some_plain y = ap (λ (b : Bool). y.basic || b) (or-false y.proleptic)

pub some_signed : (y : SignedYears) → some_year (Years.Signed y) ≡ y.negative || (y.five || (y.six || (y.seven || (y.eight || y.nine))))
unfolding some_year
some_signed y = ap (λ (b : Bool). y.negative || (y.five || (y.six || (y.seven || (y.eight || b))))) (or-false y.nine)
