-- Forms are told apart, and what a type holds.
use Rattle.std.specs.Prelude.{Option, Some, None}
use mathlib.Core.Path.{◌≡◌, refl, sym, ap}
use mathlib.Core.Bool.{Bool, true, false, ◌&&◌, false≢true}
use Prim.Native.Nat.{ℕ}
use native.Mathlib.Omega.{arith}
use lib.Dec.{T, eqb}
use lib.IntN.{ℤ}
use lib.Signed.{le_z, lt_z, ◌≤ℤ◌, ◌<ℤ◌, le_z_yes, lt_z_yes, <ℤ-≤ℤ_trans, clash_ℤ}
use borrow.Author.Tests.{eqb-true, eq-eqb}
use Rattle.octets.proofs.Laws.Cases.{both}
use Rattle.calendar.specs.Years.{astronomical_of}
use Rattle.calendar.specs.declared.years.Year.{Year}
use Rattle.calendar.specs.declared.dates.Date.{Date}
use Rattle.texts.specs.declared.forms.DateForm.{DateForm}
use Rattle.texts.specs.declared.forms.TimeForm.{TimeForm}
use Rattle.texts.specs.declared.forms.Form.{Form}
use Rattle.texts.specs.declared.values.Time.{Time}
use Rattle.texts.specs.declared.values.Value.{Value}
use Rattle.types.specs.declared.types.DateType.{DateType}
use Rattle.types.specs.declared.types.TimeType.{TimeType}
use Rattle.types.specs.declared.types.Parts.{Parts}
use Rattle.types.specs.declared.types.«Type».{«Type» as Ty}
use Rattle.texts.specs.Forms.{date_form, time_form, value_form}
use Rattle.types.specs.Numbers.{date_number, date_at, clock_number, clock_at, zone_number, zone_at}
use Rattle.types.proofs.Laws.Numbers.{date_back, clock_back, zone_back}
use Rattle.types.specs.Types.{form_of_parts, form_of, parts_of}
use Rattle.held_values.specs.Forms.{same_date_form, same_time_form, same_form}
use Rattle.held_values.specs.Existence.{hours_of, exists_value}
use Rattle.texts.specs.Forms.{year_of}
use Rattle.types.specs.Years.{between, in_years}
use Rattle.held_values.specs.Holding.{in_window, admits_date, admits_time, admits, in_type}
use Rattle.held_values.specs.Holding.{holds_of}
use Rattle.answers.proofs.Laws.Outcomes.{by_number}
use Rattle.held_values.proofs.Laws.Existence.{three}

same_date : (f g : DateForm) → same_date_form f g ≡ true → f ≡ g
unfolding same_date_form
same_date f g e = by_number date_number date_at date_back f g (eqb-true (date_number f) (date_number g) e)

same_time : (f g : TimeForm) → same_time_form f g ≡ true → f ≡ g
unfolding same_time_form
same_time f g e =
    let p = three (eqb (clock_number f.clock) (clock_number g.clock)) (eqb f.digits g.digits) (eqb (zone_number f.zone) (zone_number g.zone)) e in
    let clock = by_number clock_number clock_at clock_back f.clock g.clock (eqb-true _ _ p.0) in
    let digits = eqb-true f.digits g.digits p.1 in
    let zone = by_number zone_number zone_at zone_back f.zone g.zone (eqb-true _ _ p.2) in
    λ i. record { clock = clock i; digits = digits i; zone = zone i }

-- Two forms that test as one are one.
pub same-form : (f g : Form) → same_form f g ≡ true → f ≡ g
same-form (Form.Date d) (Form.Date e) h = ap Form.Date (same_date d e h)
same-form (Form.Date d) (Form.Time u) h = absurd (false≢true h)
same-form (Form.Date d) (Form.DateTime e u) h = absurd (false≢true h)
same-form (Form.Time t) (Form.Date e) h = absurd (false≢true h)
same-form (Form.Time t) (Form.Time u) h = ap Form.Time (same_time t u h)
same-form (Form.Time t) (Form.DateTime e u) h = absurd (false≢true h)
same-form (Form.DateTime d t) (Form.Date e) h = absurd (false≢true h)
same-form (Form.DateTime d t) (Form.Time u) h = absurd (false≢true h)
same-form (Form.DateTime d t) (Form.DateTime e u) h =
    let p = both (same_date_form d e) (same_time_form t u) h in
    let date = same_date d e p.0 in
    let time = same_time t u p.1 in
    λ i. Form.DateTime (date i) (time i)

date_same : (f : DateForm) → same_date_form f f ≡ true
unfolding same_date_form
date_same f = eq-eqb (date_number f) (date_number f) refl

time_same : (f : TimeForm) → same_time_form f f ≡ true
unfolding same_time_form
time_same f =
    let clock = eq-eqb (clock_number f.clock) _ refl in
    let digits = eq-eqb f.digits _ refl in
    let zone = eq-eqb (zone_number f.zone) _ refl in
    simp (clock, digits, zone)

-- Two forms that are one test as one.
pub form_same : (f g : Form) → f ≡ g → same_form f g ≡ true
form_same f g e = rw (sym e) (itself f) where
  itself : (h : Form) → same_form h h ≡ true
  itself (Form.Date d) = date_same d
  itself (Form.Time t) = time_same t
  itself (Form.DateTime d t) = simp (date_same d, time_same t)

-- four tests, two by two in either order
crossed : (a b d e : Bool) → (a && b && (d && e)) ≡ (a && d && (b && e))
crossed true true d e = refl
crossed true false true e = refl
crossed true false false e = refl
crossed false b d e = refl

-- A date with a time is of a type's settings where the date is of its date's and the time of its time's.
module _ (parts : Parts) (value : Value) {d : DateType} {u : TimeType} {date : Date} {time : Time} where
  pub date_time_in : parts ≡ Parts.DateTime d u → value ≡ Value.DateTime date time
      → (same_form (value_form value) (form_of_parts parts) && admits parts value)
      ≡ (same_date_form (date_form date) d.form && admits_date d date && (same_time_form (time_form time) u.form && admits_time u time))
  date_time_in p v = simp (p, v) (crossed (same_date_form (date_form date) d.form) (same_time_form (time_form time) u.form) (admits_date d date)
      (admits_time u time))

-- A type holds exactly what exists and is in the type.
module _ (t : Ty) (value : Value) where
  pub held : holds_of t value ≡ true → (exists_value value ≡ true) × (in_type t value ≡ true)
  unfolding holds_of
  held e = both (exists_value value) (in_type t value) e

  pub holds_both : exists_value value ≡ true → in_type t value ≡ true → holds_of t value ≡ true
  unfolding holds_of
  holds_both e i = simp (e, i)

  -- A value in the type is of the type's form, and the type admits it.
  pub in-type : in_type t value ≡ true → (value_form value ≡ form_of t) × (admits (parts_of t) value ≡ true)
  unfolding in_type
  in-type e =
      let p = both (same_form (value_form value) (form_of t)) (admits (parts_of t) value) e in
      (same-form (value_form value) (form_of t) p.0, p.1)

  -- A value of the type's form is in the type where the type admits it.
  pub of_form : value_form value ≡ form_of t → in_type t value ≡ admits (parts_of t) value
  unfolding in_type
  of_form e = simp (form_same (value_form value) (form_of t) e)

-- A date in a type: its year is of a Year setting that the type names, and in the window.
pub date_admitted : (t : DateType) (date : Date) → admits_date t date ≡ true
    → (in_years t.years (astronomical_of (year_of date)) ≡ true) × (in_window t.window (astronomical_of (year_of date)) ≡ true)
unfolding admits_date
date_admitted t date e = both (in_years t.years (astronomical_of (year_of date))) (in_window t.window (astronomical_of (year_of date))) e

-- A time in a type without hour 24 has another hour.
pub time_admitted : (t : TimeType) (time : Time) → t.hour24 ≡ false → admits_time t time ≡ true → hours_of time.clock ≡ 24 → ⊥
unfolding admits_time
time_admitted t time n e h = let f : false ≡ true = simp (n, eq-eqb (hours_of time.clock) 24 h) at e in false≢true f

-- The window of a type, where it has dates.
abbrev pub window_of : Parts → Option (Year × Year)
window_of (Parts.Date date) = date.window
window_of (Parts.Time time) = None
window_of (Parts.DateTime date time) = date.window

so : (b : Bool) → b ≡ true → T b
so true e = tt
so false e = absurd (false≢true e)

unheld : (b : Bool) → (b ≡ true → ⊥) → b ≡ false
unheld true f = absurd (f refl)
unheld false f = refl

no_year : (lowest highest y : ℤ) → lt_z highest lowest ≡ true → between lowest highest y ≡ true → ⊥
unfolding between
no_year lowest highest y h e =
    let p = both (le_z lowest y) (le_z y highest) e in
    let above : highest <ℤ lowest = lt_z_yes (so (lt_z highest lowest) h) in
    let low : lowest ≤ℤ y = le_z_yes (so (le_z lowest y) p.0) in
    let high : y ≤ℤ highest = le_z_yes (so (le_z y highest) p.1) in
    clash_ℤ (<ℤ-≤ℤ_trans above low) high

module _ (lowest highest : Year) (above : lt_z (astronomical_of highest) (astronomical_of lowest) ≡ true) where
  no-date : (t : DateType) (date : Date) → t.window ≡ Some (lowest, highest) → admits_date t date ≡ true → ⊥
  no-date t date w e =
      let p : between (astronomical_of lowest) (astronomical_of highest) (astronomical_of (year_of date)) ≡ true = rw w at (date_admitted t date e).1 in
      no_year (astronomical_of lowest) (astronomical_of highest) (astronomical_of (year_of date)) above p

  no_value : (parts : Parts) (value : Value) → window_of parts ≡ Some (lowest, highest)
      → same_form (value_form value) (form_of_parts parts) ≡ true → admits parts value ≡ true → ⊥
  no_value (Parts.Date t) (Value.Date date) w f e = no-date t date w e
  no_value (Parts.Date t) (Value.Time time) w f e = false≢true f
  no_value (Parts.Date t) (Value.DateTime date time) w f e = false≢true f
  no_value (Parts.Time u) value w f e = let z : ◌≡◌ {A = ℕ} 0 1 = cc in omega arith
  no_value (Parts.DateTime t u) (Value.Date date) w f e = false≢true f
  no_value (Parts.DateTime t u) (Value.Time time) w f e = false≢true f
  no_value (Parts.DateTime t u) (Value.DateTime date time) w f e = no-date t date w (both (admits_date t date) (admits_time u time) e).0

  -- "A lowest year above the highest makes a type with no values."
  pub window_empty : (t : Ty) → window_of (parts_of t) ≡ Some (lowest, highest) → (value : Value) → holds_of t value ≡ false
  unfolding in_type
  window_empty t w value =
      unheld (holds_of t value)
      (λ e.
      let p = both (same_form (value_form value) (form_of t)) (admits (parts_of t) value) (held t value e).1 in
      no_value (parts_of t) value w p.0 p.1)
