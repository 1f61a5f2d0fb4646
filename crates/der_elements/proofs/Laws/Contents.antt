-- Contents are the text without its separators, and these can be put back.
use Rattle.std.specs.Prelude.{Option}
use mathlib.Core.Path.{◌≡◌, refl, ap, ◌∙◌}
use Rattle.calendar.specs.declared.years.Year.{Year}
use mathlib.Core.Bool.{Bool, true, false, cond, or-false, false≢true}
use mathlib.Core.List.{List, [], ◌∷◌, ◌++◌, append_assoc, append-nil}
use Prim.Native.Nat.{ℕ, zero, suc, ◌+◌, ◌/◌, ◌%◌, ◌≤◌, ◌<◌}
use native.Mathlib.Omega.{arith}
use lib.Dec.{leb}
use lib.IntN.{ℤ, pos, negsuc}
use lib.ListN.{length, length-append, drop, get_or, drop_of_length-le}
use lib.Seq.{take_at, drop_at, drop-cons}
use native.Mathlib.Numerals.{add-one}
use borrow.Author.Tests.{leb-true, lt-ltb, ne_eqb}
use Rattle.octets.proofs.Laws.Cases.{both}
use Rattle.calendar.specs.Years.{astronomical_of}
use Rattle.calendar.specs.declared.dates.Date.{Date}
use Rattle.texts.specs.Dates.{put_after, put_date}
use Rattle.texts.specs.Digits.{put_digits}
use Rattle.texts.specs.Forms.{clock_form, date_form, time_form, zone_form}
use Rattle.texts.specs.Octets.{hyphen, colon, letter_t}
use Rattle.texts.specs.Times.{canonical, put_clock, put_fraction, put_time, put_zone}
use Rattle.texts.specs.Years.{year_text}
use Rattle.texts.specs.declared.forms.ClockForm.{ClockForm}
use Rattle.texts.specs.declared.forms.DateForm.{DateForm}
use Rattle.texts.specs.declared.forms.TimeForm.{TimeForm}
use Rattle.texts.specs.declared.forms.ZoneForm.{ZoneForm}
use Rattle.texts.specs.declared.values.Clock.{Clock}
use Rattle.texts.specs.declared.values.Time.{Time}
use Rattle.texts.specs.declared.values.Zone.{Zone}
use Rattle.texts.proofs.Laws.Digits.{is_digit_lem, length_put}
use Rattle.durations.specs.Texts.{letter_p}
use Rattle.types.specs.Types.{hms_local, with_window, ymd_basic}
use Rattle.types.specs.declared.types.Name.{Name}
use Rattle.held_values.specs.Holding.{admits_date}
use Rattle.types.specs.Years.{between, in_setting, in_years}
use Rattle.types.specs.declared.years.YearSetting.{YearSetting}
use Rattle.held_values.proofs.Laws.Holding.{date_admitted}
use Rattle.der_elements.specs.Elements.{contents_of, element, omits, tag_of, without}
use Rattle.der_elements.specs.Readings.{all_digits, separated}

-- ---- digits are kept

-- No digit is a separator.
pub digit_kept : (name : Name) (c : ℕ) → 48 ≤ c → c ≤ 57 → omits name c ≡ false
digit_kept Name.Listed c h k = refl
digit_kept Name.Date c h k = ne_eqb c hyphen (λ e. omega arith)
digit_kept Name.TimeOfDay c h k = ne_eqb c colon (λ e. omega arith)
digit_kept Name.Duration c h k = ne_eqb c letter_p (λ e. omega arith)
digit_kept Name.DateTime c h k = simp (ne_eqb c hyphen (λ e. omega arith), ne_eqb c colon (λ e. omega arith), ne_eqb c letter_t (λ e. omega arith))

pub kept-digits : (name : Name) (w n : ℕ) (r : List ℕ) → without (omits name) (put_digits w n ++ r) ≡ put_digits w n ++ without (omits name) r
unfolding without put_digits
kept-digits name zero n r = refl
kept-digits name (suc w) n r =
    simp (append_assoc, kept-digits name w (n / 10) ((48 + n % 10) ∷ r), digit_kept name (48 + n % 10) (omega arith) (omega arith))

all_digits_lem : (w n : ℕ) (r : List ℕ) → all_digits (put_digits w n ++ r) ≡ all_digits r
unfolding all_digits put_digits
all_digits_lem zero n r = refl
all_digits_lem (suc w) n r = rw (append_assoc, all_digits_lem w (n / 10) ((48 + n % 10) ∷ r), is_digit_lem (48 + n % 10) (omega arith) (omega arith))

-- No text is longer without some of its octets.
pub without_most : (p : ℕ → Bool) (l : List ℕ) → length (without p l) ≤ length l
unfolding without
without_most p [] = omega arith
without_most p (c ∷ l) = go (p c) (without_most p l)
  where
    go : (b : Bool) → length (without p l) ≤ length l → length (cond b (without p l) (c ∷ without p l)) ≤ length (c ∷ l)
    go true h = omega arith
    go false h = omega arith

pub without_none : (l : List ℕ) → without (omits Name.Listed) l ≡ l
unfolding without
without_none [] = refl
without_none (c ∷ l) = ap (λ (r : List ℕ). c ∷ r) (without_none l)

-- An octet is omitted, or it is the contents.
module _ (name : Name) (c : ℕ) where
  pub octet_omitted : omits name c ≡ true → contents_of name (c ∷ []) ≡ []
  unfolding contents_of without
  octet_omitted o = rw o

  pub octet_kept : omits name c ≡ false → contents_of name (c ∷ []) ≡ c ∷ []
  unfolding contents_of without
  octet_kept o = rw o

-- The contents of what is left of a text after so many octets are those of its first octet and of the rest.
module _ (name : Name) (l : List ℕ) (i : ℕ) where
  pub contents_step : i < length l → contents_of name (drop i l) ≡ contents_of name (get_or l i 0 ∷ []) ++ contents_of name (drop (i + 1) l)
  unfolding contents_of without
  contents_step h = rw (add-one, drop-cons l i 0 h) (go (omits name (get_or l i 0)))
    where
      go : (b : Bool) → cond b (without (omits name) (drop (suc i) l)) (get_or l i 0 ∷ without (omits name) (drop (suc i) l))
          ≡ cond b [] (get_or l i 0 ∷ []) ++ without (omits name) (drop (suc i) l)
      go true = refl
      go false = refl

  pub contents-counted : {n : ℕ} → i < length l → n ≡ length (contents_of name (get_or l i 0 ∷ []))
      → length (contents_of name (drop i l)) ≡ n + length (contents_of name (drop (i + 1) l))
  contents-counted h e =
      rw e (ap length (contents_step h) ∙ length-append (contents_of name (get_or l i 0 ∷ [])) (contents_of name (drop (i + 1) l)))

  pub contents-end : length l ≤ i → contents_of name (drop i l) ≡ []
  unfolding contents_of without
  contents-end h = rw (drop_of_length-le l h)

-- ---- three fields and the octet c between them

abbrev pub fields_text : (c w a b d : ℕ) → List ℕ
fields_text c w a b d = put_digits w a ++ c ∷ (put_digits 2 b ++ c ∷ put_digits 2 d)

abbrev pub fields_digits : (w a b d : ℕ) → List ℕ
fields_digits w a b d = put_digits w a ++ (put_digits 2 b ++ put_digits 2 d)

module _ (c w a b d : ℕ) where
  pub fields-kept : (name : Name) (r : List ℕ) → omits name c ≡ true
      → without (omits name) (fields_text c w a b d ++ r) ≡ fields_digits w a b d ++ without (omits name) r
  unfolding without
  fields-kept name r o = simp (append_assoc, kept-digits, o)

  pub fields_back : separated c w (fields_digits w a b d) ≡ fields_text c w a b d
  unfolding separated
  fields_back =
      rw (
        take_at (put_digits w a) (put_digits 2 b ++ put_digits 2 d) w (length_put w a),
        drop_at (put_digits w a) (put_digits 2 b ++ put_digits 2 d) w (length_put w a),
        take_at (put_digits 2 b) (put_digits 2 d) 2 (length_put 2 b),
        drop_at (put_digits 2 b) (put_digits 2 d) 2 (length_put 2 b),
      )

  pub fields-length : length (fields_digits w a b d) ≡ w + 4
  fields-length = simp (length-append, length_put) (omega arith)

  pub fields_all : (r : List ℕ) → all_digits (fields_digits w a b d ++ r) ≡ all_digits r
  fields_all r = simp (append_assoc, all_digits_lem)

-- ---- dates and times under the three names

-- A year from 1582 to 9999 has four digits.
basic_year : (y : ℤ) → in_setting YearSetting.Basic y ≡ true → (n : ℕ) × (year_text y ≡ put_digits 4 n)
unfolding between year_text
basic_year (pos n) e = (n, simp (lt-ltb n 10000 (omega (arith, leb-true n 9999 (both (leb 1582 n) (leb n 9999) e).1))))
basic_year (negsuc k) e = absurd (false≢true e)

pub date-fields : (w : Option (Year × Year)) (d : Date) → date_form d ≡ DateForm.YMD → admits_date (with_window w ymd_basic) d ≡ true
    → (n m k : ℕ) × (put_date d ≡ fields_text hyphen 4 n m k)
unfolding put_date put_after in_years
date-fields w (Date.YMD y m k) f e =
    let q = basic_year (astronomical_of y) (rw or-false at (date_admitted (with_window w ymd_basic) (Date.YMD y m k) e).0) in (q.0, m, k, rw q.1)
date-fields w (Date.Y y) f e = absurd (let z : ◌≡◌ {A = ℕ} 0 1 = cc in omega arith)
date-fields w (Date.YM y m) f e = absurd (let z : ◌≡◌ {A = ℕ} 0 1 = cc in omega arith)
date-fields w (Date.YD y k) f e = absurd (let z : ◌≡◌ {A = ℕ} 0 1 = cc in omega arith)
date-fields w (Date.YW y k) f e = absurd (let z : ◌≡◌ {A = ℕ} 0 1 = cc in omega arith)
date-fields w (Date.YWD y k m) f e = absurd (let z : ◌≡◌ {A = ℕ} 0 1 = cc in omega arith)

pub time-fields : (u : Time) → time_form u ≡ hms_local.form → (h m s : ℕ) × (put_time canonical u ≡ fields_text colon 2 h m s)
unfolding put_time put_clock put_fraction put_zone
time-fields u f = go u.clock refl u.zone refl (ap (λ (g : TimeForm). g.clock) f) (ap (λ (g : TimeForm). g.digits) f) (ap (λ (g : TimeForm). g.zone) f)
  where
    go : (c : Clock) → u.clock ≡ c → (z : Zone) → u.zone ≡ z → clock_form u.clock ≡ ClockForm.HMS → u.digits ≡ 0 → zone_form u.zone ≡ ZoneForm.L
        → (h m s : ℕ) × (put_time canonical u ≡ fields_text colon 2 h m s)
    go (Clock.HMS h m s) c Zone.L z e d g = (h, m, s, simp (c, z, d, append-nil))
    go (Clock.HMS h m s) c Zone.Z z e d g = absurd (let y : ◌≡◌ {A = ℕ} 0 1 = cc in omega arith)
    go (Clock.HMS h m s) c (Zone.LD x) z e d g = absurd (let y : ◌≡◌ {A = ℕ} 0 1 = cc in omega arith)
    go (Clock.H h) c x z e d g = absurd (let y : ◌≡◌ {A = ℕ} 0 1 = cc in omega arith)
    go (Clock.HM h m) c x z e d g = absurd (let y : ◌≡◌ {A = ℕ} 0 1 = cc in omega arith)

-- ---- elements

tag_size : (name : Name) → (1 ≤ length (tag_of name)) × (length (tag_of name) ≤ 2)
tag_size Name.Listed = omega arith
tag_size Name.Date = omega arith
tag_size Name.TimeOfDay = omega arith
tag_size Name.DateTime = omega arith
tag_size Name.Duration = omega arith

-- An element is as long as its parts, and its tag has one or two octets.
pub element_size : (name : Name) (l : List ℕ)
    → (length (element name l) ≡ length (tag_of name) + 1 + length l) × (1 ≤ length (tag_of name)) × (length (tag_of name) ≤ 2)
unfolding element
element_size name l = (simp length-append (omega arith), (tag_size name).0, (tag_size name).1)

-- The length of an element is counted from its parts.
pub element-counted : (name : Name) (l : List ℕ) {m n : ℕ} → m ≡ length (tag_of name) → n ≡ length l
    → (m + 1 + n ≡ length (element name l)) × (m ≤ 2)
element-counted name l e f = let s = element_size name l in (omega arith, omega arith)
