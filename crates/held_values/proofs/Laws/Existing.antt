-- Values that exist have the digits of their fields, and so the laws of texts hold of them; what a type holds is what its texts give.
use Rattle.std.specs.Prelude.{Option, Some, None, Result, Ok, Err}
use mathlib.Core.Path.{◌∙◌, ◌≡◌, ap, refl}
use mathlib.Core.Bool.{Bool, cond, false, true}
use mathlib.Core.List.{List, []}
use Prim.Native.Nat.{◌≤◌, ℕ}
use native.Mathlib.Omega.{arith}
use lib.Dec.{leb}
use lib.ListN.{length, take}
use borrow.Author.Tests.{le-leb, leb-true}
use Rattle.octets.proofs.Laws.Cases.{both}
use Rattle.calendar.proofs.Laws.Dates.{InRange, in-range}
use Rattle.calendar.specs.Dates.{exists_of}
use Rattle.calendar.specs.declared.dates.Date.{Date}
use Rattle.answers.specs.declared.refusals.Refusal.{Refusal}
use Rattle.printing.proofs.Laws.Canonical.{can_print, text-front, text-length, text_size}
use Rattle.printing.specs.Canonical.{buffer_with, text_capacity, length_in, printable}
use Rattle.types.specs.Types.{form_of, form_of_parts, well_formed, parts_of}
use Rattle.types.specs.declared.types.DateType.{DateType}
use Rattle.types.specs.declared.types.Parts.{Parts}
use Rattle.types.specs.declared.types.«Type».{«Type» as Ty}
use Rattle.texts.proofs.Laws.Fits.{AfterFits, ClockFits, DateFits, Fits, TimeFits, YearFits, ZoneFits}
use Rattle.texts.proofs.Laws.Forms.{one_value, other-form}
use Rattle.texts.proofs.Laws.Texts.{read_render, render_read}
use Rattle.texts.specs.Forms.{form_digits, value_form, year_of}
use Rattle.texts.specs.Texts.{read_of, render, shown_in, text_of}
use Rattle.texts.specs.Times.{canonical}
use Rattle.texts.specs.Years.{longest_year}
use Rattle.texts.specs.declared.forms.Form.{Form}
use Rattle.texts.specs.declared.values.Clock.{Clock}
use Rattle.texts.specs.declared.values.Spelling.{Spelling}
use Rattle.texts.specs.declared.values.Time.{Time}
use Rattle.texts.specs.declared.values.Value.{Value}
use Rattle.texts.specs.declared.values.Zone.{Zone}
use Rattle.held_values.proofs.Laws.Existence.{ZoneInRange, time_range}
use Rattle.held_values.proofs.Laws.Holding.{date_admitted, held, holds_both, in-type}
use Rattle.types.proofs.Laws.YearRanges.{years_range}
use Rattle.held_values.specs.Admission.{admitted, given_as, judged, judged_read, text_number}
use Rattle.held_values.specs.Existence.{exists_time, exists_value, hours_of, minutes_of, seconds_of}
use Rattle.held_values.specs.Holding.{admits, admits_date, admits_time, holds_of, in_type}
use Rattle.held_values.specs.Written.{printed}

-- ---- what exists fits

after_fits : (d : Date) → InRange d → AfterFits d
unfolding AfterFits
after_fits (Date.Y y) r = tt
after_fits (Date.YM y month) r = omega (arith, r.1)
after_fits (Date.YMD y month day) r = (omega (arith, r.1), omega (arith, r.3))
after_fits (Date.YD y day) r = omega (arith, r.1)
after_fits (Date.YW y week) r = omega (arith, r.1)
after_fits (Date.YWD y week weekday) r = (omega (arith, r.1), omega (arith, r.3))

clock_fits : (c : Clock) → hours_of c ≤ 24 → minutes_of c ≤ 59 → seconds_of c ≤ 60 → ClockFits c
unfolding ClockFits
clock_fits (Clock.H h) a b d = omega arith
clock_fits (Clock.HM h m) a b d = (omega arith, omega arith)
clock_fits (Clock.HMS h m s) a b d = (omega arith, omega arith, omega arith)

zone_fits : (z : Zone) → ZoneInRange z → ZoneFits z
unfolding ZoneFits
zone_fits Zone.L r = tt
zone_fits Zone.Z r = tt
zone_fits (Zone.LD difference) r = (omega (arith, r.hours), omega (arith, r.minutes))

time_fits : (t : Time) → exists_time t ≡ true → TimeFits t × (t.digits ≤ 9)
unfolding TimeFits
time_fits t e =
    let r = time_range t e in
    ((clock_fits t.clock r.hours r.minutes r.seconds, r.fraction, zone_fits t.zone r.zone), r.digits)

-- A value whose year, if it has one, is of at most so many digits; every year of 64 bits is of at most 20 (fits-64).
abbrev pub ShortYear : ℕ → Value → Type 0
ShortYear most (Value.Date d) = YearFits most (year_of d)
ShortYear most (Value.Time t) = Unit {0}
ShortYear most (Value.DateTime d t) = YearFits most (year_of d)

pub exists-fits : (most : ℕ) (v : Value) → exists_value v ≡ true → ShortYear most v → Fits most v
unfolding Fits DateFits
exists-fits most (Value.Date d) e y = (y, after_fits d (in-range d e))
exists-fits most (Value.Time t) e y = time_fits t e
exists-fits most (Value.DateTime d t) e y =
    let p = both (exists_of d) (exists_time t) e in
    let f = time_fits t p.1 in
    ((y, after_fits d (in-range d p.0)), f.0, f.1)

pub exists-digits : (v : Value) → exists_value v ≡ true → form_digits (value_form v) ≤ 9
exists-digits (Value.Date d) e = omega arith
exists-digits (Value.Time t) e = (time_range t e).digits
exists-digits (Value.DateTime d t) e = (time_range t (both (exists_of d) (exists_time t) e).1).digits

-- ---- texts of what exists

-- Two existing values of any forms with one canonical text are equal.
pub one-text : (v w : Value) → exists_value v ≡ true → exists_value w ≡ true → ShortYear 20 v → ShortYear 20 w → text_of v ≡ text_of w → v ≡ w
one-text v w e f x y = one_value 20 (omega arith) (omega arith) canonical canonical v w (exists-fits 20 v e x) (exists-fits 20 w f y)

-- The canonical text of an existing value, read at any other form, gives nothing.
pub no_other-form : (v : Value) → exists_value v ≡ true → ShortYear 20 v → (f : Form) → (value_form v ≡ f → ⊥) → read_of f (text_of v) ≡ None
no_other-form v e y f = other-form 20 (omega arith) longest_year (omega arith) (omega arith) (omega arith) canonical v f (exists-fits 20 v e y)

-- ---- texts of what a type holds

pub date_short : (t : DateType) (d : Date) → admits_date t d ≡ true → YearFits longest_year (year_of d)
unfolding YearFits
date_short t d e = years_range t.years _ (date_admitted t d e).0

admits-short : (p : Parts) (v : Value) → value_form v ≡ form_of_parts p → admits p v ≡ true → ShortYear longest_year v
admits-short (Parts.Date t) (Value.Date d) f e = date_short t d e
admits-short (Parts.Date t) (Value.Time u) f e = tt
admits-short (Parts.Date t) (Value.DateTime d u) f e = date_short t d e
admits-short (Parts.Time t) (Value.Date d) f e = absurd (let z : ◌≡◌ {A = ℕ} 0 1 = cc in omega arith)
admits-short (Parts.Time t) (Value.Time u) f e = tt
admits-short (Parts.Time t) (Value.DateTime d u) f e = absurd (let z : ◌≡◌ {A = ℕ} 0 1 = cc in omega arith)
admits-short (Parts.DateTime t u) (Value.Date d) f e = date_short t d (both (admits_date t d) true e).0
admits-short (Parts.DateTime t u) (Value.Time x) f e = tt
admits-short (Parts.DateTime t u) (Value.DateTime d x) f e = date_short t d (both (admits_date t d) (admits_time u x) e).0

module _ (t : Ty) (v : Value) (h : holds_of t v ≡ true) where
  pub held_fits : Fits longest_year v
  held_fits =
      let p = held t v h in
      let q = in-type t v p.1 in
      exists-fits longest_year v p.0 (admits-short (parts_of t) v q.0 q.1)

  -- Any text of a value that the type holds is read at the type's form as that value.
  pub held_read : (s : Spelling) → read_of (form_of t) (render s v) ≡ Some (v, (shown_in s v))
  held_read s =
      let q = in-type t v (held t v h).1 in
      rw (← q.0) (read_render longest_year (omega arith) (omega arith) s v held_fits)

  -- A well-formed type admits a value that it holds, in every spelling.
  pub held-admitted : well_formed t ≡ true → (s : Spelling) → admitted t (render s v) ≡ Ok v
  unfolding admitted judged
  held-admitted w s = let p = held t v h in rw (w, held_read s, p.0, p.1)

-- What is judged to be held is held.
pub judged-held : (t : Ty) (v : Value) → judged t v ≡ Ok tt → holds_of t v ≡ true
unfolding judged
judged-held t v = go (exists_value v) refl (in_type t v) refl where
  go : (a : Bool) → exists_value v ≡ a → (b : Bool) → in_type t v ≡ b →
      cond a (cond b (Ok (tt {0})) (Err Refusal.Membership)) (Err Refusal.Existence) ≡ Ok tt → holds_of t v ≡ true
  go true x true y g = holds_both t v x y
  go true x false y g = absurd (let z : ◌≡◌ {A = ℕ} 0 1 = cc in omega arith)
  go false x b y g = absurd (let z : ◌≡◌ {A = ℕ} 0 1 = cc in omega arith)

-- A value that is given after it was judged is held, and is the one that was judged.
given_held : (t : Ty) (w v : Value) → given_as w (judged t w) ≡ Ok v → (holds_of t v ≡ true) × (w ≡ v)
given_held t w v = go (judged t w) refl where
  go : (j : Result (Unit {0}) Refusal) → judged t w ≡ j → given_as w j ≡ Ok v → (holds_of t v ≡ true) × (w ≡ v)
  go (Ok tt) e g = let z : w ≡ v = cc in (rw (← z) (judged-held t w e), z)
  go (Err why) e g = absurd (let z : ◌≡◌ {A = ℕ} 0 1 = cc in omega arith)

-- What a text gives under a type is a value that the type holds, and the text is one of its spellings.
pub admitted-held : (t : Ty) (l : List ℕ) (v : Value) → admitted t l ≡ Ok v →
    (well_formed t ≡ true) × (holds_of t v ≡ true) × (s : Spelling) × (l ≡ render s v)
unfolding admitted
admitted-held t l v = go (well_formed t) refl (read_of (form_of t) l) refl where
  go : (a : Bool) → well_formed t ≡ a → (r : Option (Value × Spelling)) → read_of (form_of t) l ≡ r
      → cond a (judged_read t r) (Err Refusal.Settings) ≡ Ok v →
      (well_formed t ≡ true) × (holds_of t v ≡ true) × (s : Spelling) × (l ≡ render s v)
  go true x (Some (w, s)) y g =
      let p = given_held t w v g in
      let q = render_read longest_year (omega arith) (omega arith) (form_of t) l w s y in
      (x, p.0, s, q.0 ∙ ap (render s) p.1)
  go true x None y g = absurd (let z : ◌≡◌ {A = ℕ} 0 1 = cc in omega arith)
  go false x r y g = absurd (let z : ◌≡◌ {A = ℕ} 0 1 = cc in omega arith)

-- The number of a text that is not of the form is 3, and of any other 0.
pub text_told : (v : Value) (s : Spelling) → (text_number (Some (v, s)) ≡ 0) × (text_number None ≡ 3)
text_told v s = (refl, refl)

-- Where a text's number at the type's form is 3, that is the answer, whatever else there is to say of it.
pub form-first : (t : Ty) (l : List ℕ) → well_formed t ≡ true → text_number (read_of (form_of t) l) ≡ 3 →
    admitted t l ≡ Err Refusal.Form
unfolding admitted
form-first t l w = go (read_of (form_of t) l) where
  go : (r : Option (Value × Spelling)) → text_number r ≡ 3 → cond (well_formed t) (judged_read t r) (Err Refusal.Settings) ≡ Err Refusal.Form
  go (Some (v, s)) e = absurd (let z : ◌≡◌ {A = ℕ} 0 1 = omega arith in omega arith)
  go None e = rw w

-- ---- the text of a value, in a buffer that has room for it

-- What exists is printed.
pub printed-text : (v : Value) → exists_value v ≡ true → printed v ≡ text_of v
unfolding printed
printed-text v e = simp (le-leb (form_digits (value_form v)) 9 (exists-digits v e))

module _ (v : Value) (b : List ℕ) (k : text_capacity ≤ length b) {n : ℕ} (x : n ≡ length_in v b) where
  pub text-short : n ≤ 52
  unfolding length_in printable
  text-short = go (leb (form_digits (value_form v)) 9) refl where
    go : (t : Bool) → leb (form_digits (value_form v)) 9 ≡ t → n ≤ 52
    go true e =
        let d = leb-true (form_digits (value_form v)) 9 e in
        omega (arith, text_size v b (can_print v b d k), text-length v d)
    go false e = rw x (simp e (omega arith))

  pub text_taken : {m : List ℕ} → m ≡ buffer_with v b → take n m ≡ printed v
  unfolding length_in printable printed
  text_taken {m} y = go (leb (form_digits (value_form v)) 9) refl where
    go : (t : Bool) → leb (form_digits (value_form v)) 9 ≡ t → take n m ≡ cond t (text_of v) []
    go true e = rw (x, y) (text-front v b (can_print v b (leb-true (form_digits (value_form v)) 9 e) k))
    go false e = let z : n ≡ 0 = x ∙ simp e in rw z
