-- The years of each Year setting: no year is of two, and each that a text can show is of one.
use mathlib.Core.Path.{◌≡◌, refl, sym, ap, ◌∙◌}
use mathlib.Core.Bool.{Bool, true, false, cond, beq, ◌&&◌, ◌||◌, or-false, false≢true}
use mathlib.Core.List.{List, [], ◌∷◌}
use Prim.Native.Nat.{ℕ, suc, ◌-◌, ◌^◌, ◌<◌, ◌≤◌}
use native.Mathlib.Omega.{arith}
use lib.Dec.{leb, ltb}
use lib.IntN.{ℤ, pos, negsuc, nat_abs}
use borrow.Author.Tests.{leb-true, leb-false, ltb-true, le-leb, lt-leb, lt-ltb}
use Rattle.octets.proofs.Laws.Cases.{both}
use Rattle.texts.specs.Years.{longest_year}
use Rattle.types.specs.Years.{between, in_long, in_setting, in_years, names, year_settings}
use Rattle.types.specs.declared.years.PlainYears.{PlainYears}
use Rattle.types.specs.declared.years.SignedYears.{SignedYears}
use Rattle.types.specs.declared.years.YearSetting.{YearSetting}
use Rattle.types.specs.declared.years.Years.{Years}
use Rattle.types.proofs.Laws.Years.{any-of, of_any}

-- ---- one number of digits

-- A year is of Ln exactly where it has n digits, the first not 0, whichever its sign.
pub long_range : (n : ℕ) (y : ℤ) → in_long n y ≡ true → (10 ^ (n - 1) ≤ nat_abs y) × (nat_abs y < 10 ^ n)
unfolding in_long
long_range n y e = let p = both (leb (10 ^ (n - 1)) (nat_abs y)) (ltb (nat_abs y) (10 ^ n)) e in (leb-true _ _ p.0, ltb-true _ _ p.1)

pub range_long : (n : ℕ) (y : ℤ) → 10 ^ (n - 1) ≤ nat_abs y → nat_abs y < 10 ^ n → in_long n y ≡ true
unfolding in_long
range_long n y h k = simp (le-leb (10 ^ (n - 1)) (nat_abs y) h, lt-ltb (nat_abs y) (10 ^ n) k)

-- ---- the setting of a year

abbrev long_at : ℕ → YearSetting
long_at n =
    cond (leb n 99999) YearSetting.L5
    (cond (leb n 999999) YearSetting.L6
    (cond (leb n 9999999) YearSetting.L7
    (cond (leb n 99999999) YearSetting.L8 YearSetting.L9)))

abbrev setting_at : ℤ → YearSetting
setting_at (pos k) = cond (leb k 1581) YearSetting.Proleptic (cond (leb k 9999) YearSetting.Basic (long_at k))
setting_at (negsuc k) = cond (leb k 9998) YearSetting.Negative (long_at (suc k))

signed_at : (y : ℤ) → 10000 ≤ nat_abs y → setting_at y ≡ long_at (nat_abs y)
signed_at (pos k) h = rw (lt-leb k 1581 (omega arith), lt-leb k 9999 (omega arith))
signed_at (negsuc k) h = rw (lt-leb k 9998 (omega arith))

setting_is : (s : YearSetting) (y : ℤ) → in_setting s y ≡ true → setting_at y ≡ s
unfolding between
setting_is YearSetting.Basic (pos k) e =
    let p = both (leb 1582 k) (leb k 9999) e in rw (lt-leb k 1581 (omega (arith, leb-true 1582 k p.0)), p.1)
setting_is YearSetting.Basic (negsuc k) e = absurd (false≢true e)
setting_is YearSetting.Proleptic (pos k) e = rw (both (leb 0 k) (leb k 1581) e).1
setting_is YearSetting.Proleptic (negsuc k) e = absurd (false≢true e)
setting_is YearSetting.Negative (pos k) e = absurd (false≢true e)
setting_is YearSetting.Negative (negsuc k) e = rw (both (leb k 9998) (leb 0 k) e).0
setting_is YearSetting.L5 y e =
    let p = long_range 5 y e in signed_at y (omega arith) ∙ rw (le-leb (nat_abs y) 99999 (omega arith))
setting_is YearSetting.L6 y e =
    let p = long_range 6 y e in signed_at y (omega arith) ∙ rw (lt-leb (nat_abs y) 99999 (omega arith), le-leb (nat_abs y) 999999 (omega arith))
setting_is YearSetting.L7 y e =
    let p = long_range 7 y e in
    signed_at y (omega arith)
    ∙ rw (lt-leb (nat_abs y) 99999 (omega arith), lt-leb (nat_abs y) 999999 (omega arith), le-leb (nat_abs y) 9999999 (omega arith))
setting_is YearSetting.L8 y e =
    let p = long_range 8 y e in
    signed_at y (omega arith)
    ∙ rw (
      lt-leb (nat_abs y) 99999 (omega arith),
      lt-leb (nat_abs y) 999999 (omega arith),
      lt-leb (nat_abs y) 9999999 (omega arith),
      le-leb (nat_abs y) 99999999 (omega arith),
    )
setting_is YearSetting.L9 y e =
    let p = long_range 9 y e in
    signed_at y (omega arith)
    ∙ rw (
      lt-leb (nat_abs y) 99999 (omega arith),
      lt-leb (nat_abs y) 999999 (omega arith),
      lt-leb (nat_abs y) 9999999 (omega arith),
      lt-leb (nat_abs y) 99999999 (omega arith),
    )

-- No year is of two Year settings.
pub one_setting : (a b : YearSetting) (y : ℤ) → in_setting a y ≡ true → in_setting b y ≡ true → a ≡ b
one_setting a b y p q = sym (setting_is a y p) ∙ setting_is b y q

long_setting : (y : ℤ) → 10000 ≤ nat_abs y → nat_abs y < 10 ^ longest_year → (s : YearSetting) × (in_setting s y ≡ true)
long_setting y h k = go (leb (nat_abs y) 99999) (leb (nat_abs y) 999999) (leb (nat_abs y) 9999999) (leb (nat_abs y) 99999999) refl refl refl refl
  where
    go : (a b d e : Bool) → leb (nat_abs y) 99999 ≡ a → leb (nat_abs y) 999999 ≡ b → leb (nat_abs y) 9999999 ≡ d → leb (nat_abs y) 99999999 ≡ e
        → (s : YearSetting) × (in_setting s y ≡ true)
    go true b d e p q r t = (YearSetting.L5, range_long 5 y h (omega (arith, leb-true (nat_abs y) 99999 p)))
    go false true d e p q r t = (YearSetting.L6, range_long 6 y (omega (arith, leb-false (nat_abs y) 99999 p)) (omega (arith, leb-true (nat_abs y) 999999 q)))
    go false false true e p q r t =
        (YearSetting.L7, range_long 7 y (omega (arith, leb-false (nat_abs y) 999999 q)) (omega (arith, leb-true (nat_abs y) 9999999 r)))
    go false false false true p q r t =
        (YearSetting.L8, range_long 8 y (omega (arith, leb-false (nat_abs y) 9999999 r)) (omega (arith, leb-true (nat_abs y) 99999999 t)))
    go false false false false p q r t = (YearSetting.L9, range_long 9 y (omega (arith, leb-false (nat_abs y) 99999999 t)) k)

-- Each year that a text can show is of a Year setting, ..
pub some_setting : (y : ℤ) → nat_abs y < 10 ^ longest_year → (s : YearSetting) × (in_setting s y ≡ true)
unfolding between
some_setting (pos k) h = go (leb k 1581) (leb k 9999) refl refl
  where
    go : (a b : Bool) → leb k 1581 ≡ a → leb k 9999 ≡ b → (s : YearSetting) × (in_setting s (pos k) ≡ true)
    go true b p q = (YearSetting.Proleptic, rw (le-leb 0 k (omega arith), p))
    go false true p q = (YearSetting.Basic, rw (le-leb 1582 k (leb-false k 1581 p), q))
    go false false p q = long_setting (pos k) (leb-false k 9999 q) h
some_setting (negsuc k) h = go (leb k 9998) refl
  where
    go : (a : Bool) → leb k 9998 ≡ a → (s : YearSetting) × (in_setting s (negsuc k) ≡ true)
    go true p = (YearSetting.Negative, rw (p, le-leb 0 k (omega arith)))
    go false p = long_setting (negsuc k) (omega (arith, leb-false k 9998 p)) h

-- .. and only such a year.
pub setting_range : (s : YearSetting) (y : ℤ) → in_setting s y ≡ true → nat_abs y < 10 ^ longest_year
unfolding between
setting_range YearSetting.Basic (pos k) e = omega (arith, leb-true k 9999 (both (leb 1582 k) (leb k 9999) e).1)
setting_range YearSetting.Basic (negsuc k) e = absurd (false≢true e)
setting_range YearSetting.Proleptic (pos k) e = omega (arith, leb-true k 1581 (both (leb 0 k) (leb k 1581) e).1)
setting_range YearSetting.Proleptic (negsuc k) e = absurd (false≢true e)
setting_range YearSetting.Negative (pos k) e = absurd (false≢true e)
setting_range YearSetting.Negative (negsuc k) e = omega (arith, leb-true k 9998 (both (leb k 9998) (leb 0 k) e).0)
setting_range YearSetting.L5 y e = omega (arith, (long_range 5 y e).1)
setting_range YearSetting.L6 y e = omega (arith, (long_range 6 y e).1)
setting_range YearSetting.L7 y e = omega (arith, (long_range 7 y e).1)
setting_range YearSetting.L8 y e = omega (arith, (long_range 8 y e).1)
setting_range YearSetting.L9 y e = (long_range 9 y e).1

-- ---- the years of a type

-- A year of a type's years is of a setting that the type names.
pub year_named : (years : Years) (y : ℤ) → in_years years y ≡ true → (s : YearSetting) × (names years s ≡ true) × (in_setting s y ≡ true)
unfolding in_years
year_named years y e =
    let p = of_any (λ s. names years s && in_setting s y) year_settings e in
    let q = both (names years p.0) (in_setting p.0 y) p.1 in
    (p.0, q.0, q.1)

-- A year of a setting that the type names is of the type's years.
pub named_year : (years : Years) (s : YearSetting) (y : ℤ) → names years s ≡ true → in_setting s y ≡ true → in_years years y ≡ true
unfolding in_years
named_year years s y n i = any-of (λ s. names years s && in_setting s y) s (rw (n, i))

-- A year of a type's years is one that a text can show.
pub years_range : (years : Years) (y : ℤ) → in_years years y ≡ true → nat_abs y < 10 ^ longest_year
years_range years y e = let p = year_named years y e in setting_range p.0 y p.2

-- The years of Basic and Proleptic, ..
pub in_plain : (names : PlainYears) (y : ℤ) → in_years (Years.Plain names) y
    ≡ (names.basic && in_setting YearSetting.Basic y) || (names.proleptic && in_setting YearSetting.Proleptic y)
unfolding in_years
in_plain names y =
    ap (λ (b : Bool). (names.basic && in_setting YearSetting.Basic y) || b) (or-false (names.proleptic && in_setting YearSetting.Proleptic y))

-- .. and of Negative and of each number of digits.
pub in_signed : (names : SignedYears) (y : ℤ) → in_years (Years.Signed names) y
    ≡ (names.negative && in_setting YearSetting.Negative y)
    || ((names.five && in_long 5 y)
    || ((names.six && in_long 6 y)
    || ((names.seven && in_long 7 y)
    || ((names.eight && in_long 8 y)
    || (names.nine && in_long 9 y)))))
unfolding in_years
in_signed names y =
    ap
    (λ (b : Bool). (names.negative && in_setting YearSetting.Negative y)
    || ((names.five && in_long 5 y) || ((names.six && in_long 6 y) || ((names.seven && in_long 7 y) || ((names.eight && in_long 8 y) || b)))))
    (or-false (names.nine && in_long 9 y))

-- ---- the ends of each setting, as checked values: a setting, a year, and whether the year is of it

data Row : Type 0 where
  year : YearSetting → ℤ → Bool → Row

rows : List Row
rows =
    year YearSetting.Proleptic (negsuc 0) false ∷
    year YearSetting.Proleptic (pos 0) true ∷
    year YearSetting.Proleptic (pos 1581) true ∷
    year YearSetting.Proleptic (pos 1582) false ∷
    year YearSetting.Basic (pos 1581) false ∷
    year YearSetting.Basic (pos 1582) true ∷
    year YearSetting.Basic (pos 9999) true ∷
    year YearSetting.Basic (pos 10000) false ∷
    year YearSetting.Negative (negsuc 9999) false ∷
    year YearSetting.Negative (negsuc 9998) true ∷
    year YearSetting.Negative (negsuc 0) true ∷
    year YearSetting.Negative (pos 0) false ∷
    year YearSetting.L5 (negsuc 99999) false ∷
    year YearSetting.L5 (negsuc 99998) true ∷
    year YearSetting.L5 (negsuc 9999) true ∷
    year YearSetting.L5 (negsuc 9998) false ∷
    year YearSetting.L5 (pos 9999) false ∷
    year YearSetting.L5 (pos 10000) true ∷
    year YearSetting.L5 (pos 99999) true ∷
    year YearSetting.L5 (pos 100000) false ∷
    year YearSetting.L6 (negsuc 999999) false ∷
    year YearSetting.L6 (negsuc 999998) true ∷
    year YearSetting.L6 (negsuc 99999) true ∷
    year YearSetting.L6 (negsuc 99998) false ∷
    year YearSetting.L6 (pos 99999) false ∷
    year YearSetting.L6 (pos 100000) true ∷
    year YearSetting.L6 (pos 999999) true ∷
    year YearSetting.L6 (pos 1000000) false ∷
    year YearSetting.L7 (negsuc 9999999) false ∷
    year YearSetting.L7 (negsuc 9999998) true ∷
    year YearSetting.L7 (negsuc 999999) true ∷
    year YearSetting.L7 (negsuc 999998) false ∷
    year YearSetting.L7 (pos 999999) false ∷
    year YearSetting.L7 (pos 1000000) true ∷
    year YearSetting.L7 (pos 9999999) true ∷
    year YearSetting.L7 (pos 10000000) false ∷
    year YearSetting.L8 (negsuc 99999999) false ∷
    year YearSetting.L8 (negsuc 99999998) true ∷
    year YearSetting.L8 (negsuc 9999999) true ∷
    year YearSetting.L8 (negsuc 9999998) false ∷
    year YearSetting.L8 (pos 9999999) false ∷
    year YearSetting.L8 (pos 10000000) true ∷
    year YearSetting.L8 (pos 99999999) true ∷
    year YearSetting.L8 (pos 100000000) false ∷
    year YearSetting.L9 (negsuc 999999999) false ∷
    year YearSetting.L9 (negsuc 999999998) true ∷
    year YearSetting.L9 (negsuc 99999999) true ∷
    year YearSetting.L9 (negsuc 99999998) false ∷
    year YearSetting.L9 (pos 99999999) false ∷
    year YearSetting.L9 (pos 100000000) true ∷
    year YearSetting.L9 (pos 999999999) true ∷
    year YearSetting.L9 (pos 1000000000) false ∷ []

all_right : List Row → Bool
all_right [] = true
all_right (year s y is ∷ l) = beq (in_setting s y) is && all_right l

settings_checked : all_right rows ≡ true
unfolding rows all_right between in_long
settings_checked = refl
