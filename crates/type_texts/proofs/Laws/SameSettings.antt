-- Two lists that can be read: when they are equal, and when they are one row, in words of their settings alone.
use Rattle.std.specs.Prelude.{Option}
use Rattle.std.specs.Option.{is_some}
use mathlib.Core.Path.{◌≡◌, refl, ap, sym, ◌∙◌, subst}
use mathlib.Core.Logic.{◌⊎◌, ◌≢◌, inl, inr}
use mathlib.Core.List.{List, [], ◌∷◌}
use mathlib.Core.Bool.{Bool, true, false, and-eq-true_iff, false≢true}
use Prim.Native.Nat.{ℕ}
use lib.Dec.{eqb}
use borrow.Author.Tests.{eq-eqb, eqb-false, eqb-true}
use Rattle.lists.specs.Lists.{settings, basic_in, date_in, year_in, time_in, zone_in, interval_in, dated_list, list_of}
use Rattle.lists.specs.declared.lists.Settings.{Settings}
use Rattle.types.specs.Years.{row_number, row_of_year, year_setting_at, year_number}
use Rattle.types.specs.declared.years.YearSetting.{YearSetting}
use Rattle.types.proofs.Laws.Years.{year_back}
use Rattle.type_texts.specs.TypeTexts.{equal_lists, one_row, row_in, same_but_year}
use Rattle.type_texts.proofs.Laws.Arranged.{ListOf, a_date, a_time, a_date_time, a_duration, list_arranged}
use Rattle.type_texts.proofs.Laws.Tests.{five_hold}
use Rattle.type_texts.proofs.Laws.ListOrder.{one_number}

-- "all of one row, no Year twice" (#103): Basic with Proleptic, or two of Negative and L5 to L9, in either order.
pub data YearPair : ℕ → ℕ → Type 0 where
  of_row_lem : (x y : YearSetting) → row_of_year x ≡ row_of_year y → x ≢ y → YearPair (year_number x) (year_number y)

-- "lists that differ only in Year, all of one row, no Year twice" (#103).
pub record OnlyYears (s t : Option Settings) : Type 0 where
  pub basic_is : basic_in s ≡ basic_in t
  pub date_is : date_in s ≡ date_in t
  pub time_is : time_in s ≡ time_in t
  pub zone_is : zone_in s ≡ zone_in t
  pub interval_is : interval_in s ≡ interval_in t
  pub years_are : YearPair (year_in s) (year_in t)

eqb_same : (n : ℕ) → eqb n n ≡ true
eqb_same n = eq-eqb n n refl

-- ---- The same settings.

same_itself : (s : Option Settings) → equal_lists s s ≡ true
unfolding equal_lists same_but_year
same_itself s =
    rw (eqb_same (basic_in s), eqb_same (date_in s), eqb_same (time_in s), eqb_same (zone_in s), eqb_same (interval_in s), eqb_same (year_in s))

-- Lists with the same settings test as equal.
pub same_are_equal : (s t : Option Settings) → s ≡ t → equal_lists s t ≡ true
same_are_equal s t e = subst (λ (x : Option Settings). equal_lists s x ≡ true) e (same_itself s)

-- A list that can be read is its six settings.
six-settings : (ws : List (List ℕ)) (s : Option Settings) → ListOf ws s
    → s ≡ settings (basic_in s ∷ date_in s ∷ year_in s ∷ time_in s ∷ zone_in s ∷ interval_in s ∷ [])
six-settings ws s (a_date f y p e) = rw e
six-settings ws s (a_time t h p e) = rw e
six-settings ws s (a_date_time f t y h p e) = rw e
six-settings ws s (a_duration p e) = rw e

record SameButYear (s t : Option Settings) : Type 0 where
  basic_same : basic_in s ≡ basic_in t
  date_same : date_in s ≡ date_in t
  time_same : time_in s ≡ time_in t
  zone_same : zone_in s ≡ zone_in t
  interval_same : interval_in s ≡ interval_in t

but_year : (s t : Option Settings) → same_but_year s t ≡ true → SameButYear s t
unfolding same_but_year
but_year s t e =
    let p = five_hold (eqb (basic_in s) (basic_in t)) (eqb (date_in s) (date_in t)) (eqb (time_in s) (time_in t)) (eqb (zone_in s) (zone_in t))
    (eqb (interval_in s) (interval_in t)) e in
    record {
      basic_same = eqb-true _ _ p.0;
      date_same = eqb-true _ _ p.1;
      time_same = eqb-true _ _ p.2;
      zone_same = eqb-true _ _ p.3;
      interval_same = eqb-true _ _ p.4;
    }

module _ (a b : List ℕ) (h : is_some (list_of a) ≡ true) (k : is_some (list_of b) ≡ true) where
  -- Two lists that can be read test as equal only where they have the same settings, in whatever order.
  pub equal_are_same : equal_lists (list_of a) (list_of b) ≡ true → list_of a ≡ list_of b
  unfolding equal_lists
  equal_are_same e =
      let p : (same_but_year (list_of a) (list_of b) ≡ true) × (eqb (year_in (list_of a)) (year_in (list_of b)) ≡ true) = (and-eq-true_iff _ _).0 e in
      let q = but_year (list_of a) (list_of b) p.0 in
      let y : year_in (list_of a) ≡ year_in (list_of b) = eqb-true _ _ p.1 in
      six-settings _ (list_of a) (list_arranged a h)
      ∙ numbers q.basic_same q.date_same y q.time_same q.zone_same q.interval_same
      ∙ sym (six-settings _ (list_of b) (list_arranged b k))
    where
      numbers : {b₁ b₂ d₁ d₂ y₁ y₂ t₁ t₂ z₁ z₂ i₁ i₂ : ℕ} → b₁ ≡ b₂ → d₁ ≡ d₂ → y₁ ≡ y₂ → t₁ ≡ t₂ → z₁ ≡ z₂ → i₁ ≡ i₂
          → settings (b₁ ∷ d₁ ∷ y₁ ∷ t₁ ∷ z₁ ∷ i₁ ∷ []) ≡ settings (b₂ ∷ d₂ ∷ y₂ ∷ t₂ ∷ z₂ ∷ i₂ ∷ [])
      numbers e₁ e₂ e₃ e₄ e₅ e₆ = rw (e₁, e₂, e₃, e₄, e₅, e₆)

-- ---- One row.

-- The Year of a list that can be read: one where there is a date, and otherwise none.
data YearOf (s : Option Settings) : Type 0 where
  no_year : dated_list s ≡ false → year_in s ≡ 0 → YearOf s
  a_year : (y : YearSetting) → dated_list s ≡ true → year_in s ≡ year_number y → YearOf s

year-of : (ws : List (List ℕ)) (s : Option Settings) → ListOf ws s → YearOf s
unfolding dated_list
year-of ws s (a_date f y p e) = rw e (a_year y refl refl)
year-of ws s (a_time t h p e) = rw e (no_year refl refl)
year-of ws s (a_date_time f t y h p e) = rw e (a_year y refl refl)
year-of ws s (a_duration p e) = rw e (no_year refl refl)

dated_same : (s t : Option Settings) → basic_in s ≡ basic_in t → dated_list s ≡ dated_list t
unfolding dated_list
dated_same s t e = rw e

-- Two Years of one row are one, or such a pair.
family : (x y : YearSetting) → eqb (row_number (row_of_year (year_setting_at (year_number x)))) (row_number (row_of_year (year_setting_at (year_number y)))) ≡ true
    → (year_number x ≡ year_number y) ⊎ YearPair (year_number x) (year_number y)
family x y e = go (eqb (year_number x) (year_number y)) refl
  where
    row : row_of_year x ≡ row_of_year y
    row = one_number _ _ (eqb-true (row_number (row_of_year x)) (row_number (row_of_year y)) (rw (year_back x, year_back y) at e))

    go : (b : Bool) → eqb (year_number x) (year_number y) ≡ b → (year_number x ≡ year_number y) ⊎ YearPair (year_number x) (year_number y)
    go true h = inl (eqb-true _ _ h)
    go false h = inr (of_row_lem x y row (λ z. eqb-false _ _ h (ap year_number z)))

family_of : (m n : ℕ) → YearPair m n → eqb (row_number (row_of_year (year_setting_at m))) (row_number (row_of_year (year_setting_at n))) ≡ true
family_of m n (of_row_lem x y e d) = rw (year_back x, year_back y) (eq-eqb (row_number (row_of_year x)) (row_number (row_of_year y)) (ap row_number e))

-- Lists that differ only in Year, in two Years of one row, are one row.
pub only_years_row : (s t : Option Settings) → OnlyYears s t → one_row s t ≡ true
unfolding one_row same_but_year
only_years_row s t o =
    rw (
      eq-eqb _ _ o.basic_is,
      eq-eqb _ _ o.date_is,
      eq-eqb _ _ o.time_is,
      eq-eqb _ _ o.zone_is,
      eq-eqb _ _ o.interval_is,
      family_of _ _ o.years_are,
    )

one-row_years : (s t : Option Settings) → YearOf s → YearOf t → basic_in s ≡ basic_in t → eqb (row_number (row_in s)) (row_number (row_in t)) ≡ true
    → (year_in s ≡ year_in t) ⊎ YearPair (year_in s) (year_in t)
one-row_years s t (no_year b y) (no_year c z) e f = inl (y ∙ sym z)
one-row_years s t (no_year b y) (a_year v c z) e f = absurd (false≢true (sym b ∙ dated_same s t e ∙ c))
one-row_years s t (a_year u b y) (no_year c z) e f = absurd (false≢true (sym c ∙ sym (dated_same s t e) ∙ b))
one-row_years s t (a_year u b y) (a_year v c z) e f = rw (y, z) (family u v (rw (y, z) at f))

module _ (a b : List ℕ) (h : is_some (list_of a) ≡ true) (k : is_some (list_of b) ≡ true) where
  -- Two lists that can be read are one row only where they are the same, or differ only in Year, in two Years of one row.
  pub row_only_years : one_row (list_of a) (list_of b) ≡ true → (list_of a ≡ list_of b) ⊎ OnlyYears (list_of a) (list_of b)
  unfolding one_row equal_lists
  row_only_years e =
      let p = (and-eq-true_iff (same_but_year (list_of a) (list_of b)) (eqb (row_number (row_in (list_of a))) (row_number (row_in (list_of b))))).0 e in
      let q = but_year (list_of a) (list_of b) p.0 in
      go p.0 q (one-row_years (list_of a) (list_of b) (year-of _ _ (list_arranged a h)) (year-of _ _ (list_arranged b k)) q.basic_same p.1)
    where
      go : same_but_year (list_of a) (list_of b) ≡ true → SameButYear (list_of a) (list_of b)
          → (year_in (list_of a) ≡ year_in (list_of b)) ⊎ YearPair (year_in (list_of a)) (year_in (list_of b))
          → (list_of a ≡ list_of b) ⊎ OnlyYears (list_of a) (list_of b)
      go s q (inl y) = inl (equal_are_same a b h k (rw (s, eq-eqb _ _ y)))
      go s q (inr y) = inr (record {
        basic_is = q.basic_same;
        date_is = q.date_same;
        time_is = q.time_same;
        zone_is = q.zone_same;
        interval_is = q.interval_same;
        years_are = y;
      })
