-- "A type holds a value, .. when ..", in the paper's words, and that `holds_of` says exactly that; and the causes of 1 and 3 to 5 for a value,
-- for a text, and for a value's text as an answer.
use Rattle.std.specs.Prelude.{Option, Some, None, Result, Ok, Err}
use mathlib.Core.Logic.{◌≢◌}
use mathlib.Core.Path.{◌≡◌, refl, sym, ap, ◌∙◌}
use mathlib.Core.Bool.{Bool, true, false, cond, not, ◌||◌, false≢true}
use mathlib.Core.List.{List}
use Prim.Native.Nat.{ℕ}
use native.Mathlib.Omega.{arith}
use lib.Dec.{T, eqb}
use lib.IntN.{ℤ}
use lib.Signed.{le_z, ◌≤ℤ◌, le_z_yes}
use borrow.Author.Tests.{ne_eqb}
use Rattle.octets.proofs.Laws.Cases.{both}
use Rattle.answers.specs.Outcomes.{Answer, done, refused}
use Rattle.answers.specs.Refusals.{number_of}
use Rattle.answers.specs.declared.counts.Bits.{Bits}
use Rattle.answers.specs.declared.refusals.Refusal.{Refusal}
use Rattle.calendar.specs.Years.{astronomical_of}
use Rattle.calendar.specs.declared.years.Year.{Year}
use Rattle.calendar.specs.declared.dates.Date.{Date}
use Rattle.texts.proofs.Laws.Forms.{other-form}
use Rattle.texts.specs.Forms.{value_form, year_of}
use Rattle.texts.specs.Texts.{read_of, text_of}
use Rattle.texts.specs.Times.{canonical}
use Rattle.texts.specs.Years.{longest_year}
use Rattle.texts.specs.declared.values.Spelling.{Spelling}
use Rattle.texts.specs.declared.values.Time.{Time}
use Rattle.texts.specs.declared.values.Value.{Value}
use Rattle.types.specs.Types.{form_of, form_of_parts, well_formed, parts_of}
use Rattle.types.specs.declared.types.DateType.{DateType}
use Rattle.types.specs.declared.types.Parts.{Parts}
use Rattle.types.specs.declared.types.TimeType.{TimeType}
use Rattle.types.specs.declared.types.«Type».{«Type» as Ty}
use Rattle.held_values.specs.Admission.{admission_number, admitted, given_as, judged, judged_read, judgement_number, text_number}
use Rattle.held_values.specs.Existence.{exists_value, hours_of}
use Rattle.held_values.specs.Forms.{same_form}
use Rattle.held_values.specs.Holding.{admits, admits_date, admits_time, holds_of, in_type, in_window}
use Rattle.held_values.specs.Written.{written}
use Rattle.held_values.proofs.Laws.Holding.{date_admitted, form_same, held, holds_both, in-type, of_form, same-form, time_admitted}
use Rattle.types.specs.Years.{between, in_setting, names}
use Rattle.types.specs.declared.years.YearSetting.{YearSetting}
use Rattle.types.proofs.Laws.YearRanges.{named_year, year_named}
use Rattle.held_values.proofs.Laws.Exists.{ValueExists, exists-value, value-exists}
use Rattle.held_values.proofs.Laws.Existing.{ShortYear, date_short, exists-fits, held_read}

-- ---- what a type asks

-- "each year is of a Year setting that the type names", and from the lowest to the highest year, where there are such.
pub record YearHeld (t : DateType) (y : ℤ) : Type 0 where
  pub setting : YearSetting
  pub named : names t.years setting ≡ true
  pub of_setting : in_setting setting y ≡ true
  pub window : (lowest highest : Year) → t.window ≡ Some (lowest, highest) → (astronomical_of lowest ≤ℤ y) × (y ≤ℤ astronomical_of highest)

-- "no hour 24", where the type has it.
abbrev pub HourHeld : TimeType → Time → Type 0
HourHeld t time = t.hour24 ≡ false → hours_of time.clock ≢ 24

-- "the type's restrictions are met", and the year's setting: of the date, the time, or both.
pub data Admitted : Parts → Value → Type 0 where
  date : {t : DateType} {d : Date} → YearHeld t (astronomical_of (year_of d)) → Admitted (Parts.Date t) (Value.Date d)
  time : {t : TimeType} {u : Time} → HourHeld t u → Admitted (Parts.Time t) (Value.Time u)
  date_time : {s : DateType} {t : TimeType} {d : Date} {u : Time} → YearHeld s (astronomical_of (year_of d)) → HourHeld t u
      → Admitted (Parts.DateTime s t) (Value.DateTime d u)

-- "A type holds a value, one that exists by the rules below, when the canonical text is of the type's form, each year is of a Year setting
-- that the type names, and the type's restrictions are met."
pub record Holding (t : Ty) (v : Value) : Type 0 where
  pub exists : ValueExists v
  pub form : text_number (read_of (form_of t) (text_of v)) ≡ 0
  pub admitted-is : Admitted (parts_of t) v

-- ---- from the tests to the words

so : (b : Bool) → b ≡ true → T b
so true e = tt
so false e = absurd (false≢true e)

of_so : (b : Bool) → T b → b ≡ true
of_so true h = refl
of_so false h = absurd h

range : (a b y : ℤ) → between a b y ≡ true → (a ≤ℤ y) × (y ≤ℤ b)
unfolding between
range a b y e = let p = both (le_z a y) (le_z y b) e in (le_z_yes (so (le_z a y) p.0), le_z_yes (so (le_z y b) p.1))

in-range : (a b y : ℤ) → a ≤ℤ y → y ≤ℤ b → between a b y ≡ true
unfolding between
in-range a b y h k = simp (of_so (le_z a y) h.le, of_so (le_z y b) k.le)

year_held : (t : DateType) (d : Date) → admits_date t d ≡ true → YearHeld t (astronomical_of (year_of d))
year_held t d e =
    let p = date_admitted t d e in
    let n = year_named t.years (astronomical_of (year_of d)) p.0 in
    record {
      setting = n.0;
      named = n.1;
      of_setting = n.2;
      window = λ lowest highest w. range (astronomical_of lowest) (astronomical_of highest) (astronomical_of (year_of d)) (rw w at p.1);
    }

hour_held : (t : TimeType) (u : Time) → admits_time t u ≡ true → HourHeld t u
hour_held t u e n = time_admitted t u n e

admitted_words : (p : Parts) (v : Value) → value_form v ≡ form_of_parts p → admits p v ≡ true → Admitted p v
admitted_words (Parts.Date t) (Value.Date d) f e = date (year_held t d e)
admitted_words (Parts.Date t) (Value.Time u) f e = absurd (let z : ◌≡◌ {A = ℕ} 0 1 = cc in omega arith)
admitted_words (Parts.Date t) (Value.DateTime d u) f e = absurd (let z : ◌≡◌ {A = ℕ} 0 1 = cc in omega arith)
admitted_words (Parts.Time t) (Value.Date d) f e = absurd (let z : ◌≡◌ {A = ℕ} 0 1 = cc in omega arith)
admitted_words (Parts.Time t) (Value.Time u) f e = time (hour_held t u e)
admitted_words (Parts.Time t) (Value.DateTime d u) f e = absurd (let z : ◌≡◌ {A = ℕ} 0 1 = cc in omega arith)
admitted_words (Parts.DateTime s t) (Value.Date d) f e = absurd (let z : ◌≡◌ {A = ℕ} 0 1 = cc in omega arith)
admitted_words (Parts.DateTime s t) (Value.Time u) f e = absurd (let z : ◌≡◌ {A = ℕ} 0 1 = cc in omega arith)
admitted_words (Parts.DateTime s t) (Value.DateTime d u) f e =
    let p = both (admits_date s d) (admits_time t u) e in
    date_time (year_held s d p.0) (hour_held t u p.1)

-- ---- and back

window_test : (w : Option (Year × Year)) (y : ℤ) → ((lowest highest : Year) → w ≡ Some (lowest, highest) → (astronomical_of lowest ≤ℤ y) × (y ≤ℤ astronomical_of highest))
    → in_window w y ≡ true
window_test None y f = refl
window_test (Some (lowest, highest)) y f =
    let p = f lowest highest refl in in-range (astronomical_of lowest) (astronomical_of highest) y p.0 p.1

year_test : (t : DateType) (d : Date) → YearHeld t (astronomical_of (year_of d)) → admits_date t d ≡ true
unfolding admits_date
year_test t d h =
    let y = named_year t.years h.setting (astronomical_of (year_of d)) h.named h.of_setting in
    simp (y, window_test t.window (astronomical_of (year_of d)) h.window)

hour_test : (t : TimeType) (u : Time) → HourHeld t u → admits_time t u ≡ true
unfolding admits_time
hour_test t u f = go t.hour24 refl
  where
    go : (b : Bool) → t.hour24 ≡ b → (b || not (eqb (hours_of u.clock) 24)) ≡ true
    go true e = refl
    go false e = simp (ne_eqb (hours_of u.clock) 24 (f e))

admitted_tests : (p : Parts) (v : Value) → Admitted p v → admits p v ≡ true
admitted_tests p v (date {t} {d} h) = year_test t d h
admitted_tests p v (time {t} {u} h) = hour_test t u h
admitted_tests p v (date_time {s} {t} {d} {u} h k) = simp (year_test s d h, hour_test t u k)

-- A year that a type admits has no more digits than texts have.
short_year : (p : Parts) (v : Value) → Admitted p v → ShortYear longest_year v
short_year p v (date {t} {d} h) = date_short t d (year_test t d h)
short_year p v (time h) = tt
short_year p v (date_time {s} {t} {d} h k) = date_short s d (year_test s d h)

-- The canonical text of a value that exists, with no more digits in its year than texts have, is of the value's form alone.
form-shown : (t : Ty) (v : Value) → exists_value v ≡ true → ShortYear longest_year v → text_number (read_of (form_of t) (text_of v)) ≡ 0 → value_form v ≡ form_of t
form-shown t v x y e = go (same_form (value_form v) (form_of t)) refl
  where
    go : (b : Bool) → same_form (value_form v) (form_of t) ≡ b → value_form v ≡ form_of t
    go true b = same-form (value_form v) (form_of t) b
    go false b =
        let n : read_of (form_of t) (text_of v) ≡ None =
        other-form longest_year (omega arith) longest_year (omega arith) (omega arith) (omega arith) canonical v (form_of t) (exists-fits longest_year v x y)
        (λ q. false≢true (sym b ∙ form_same (value_form v) (form_of t) q)) in
        absurd (let z : 3 ≡ 0 = sym (ap text_number n) ∙ e in omega arith)

-- ---- the law

module _ (t : Ty) (v : Value) where
  -- What a type holds, the paper says that it holds.
  pub holding : holds_of t v ≡ true → Holding t v
  holding e =
      let p = held t v e in
      let q = in-type t v p.1 in
      record { exists = value-exists v p.0; form = ap text_number (held_read t v e canonical); admitted-is = admitted_words (parts_of t) v q.0 q.1 }

  -- What the paper says that a type holds, it holds.
  pub holds : Holding t v → holds_of t v ≡ true
  holds h =
      let x = exists-value v h.exists in
      let f = form-shown t v x (short_year (parts_of t) v h.admitted-is) h.form in
      holds_both t v x (of_form t v f ∙ admitted_tests (parts_of t) v h.admitted-is)

-- ---- the causes of what is judged

-- Why a value has its number under a type: 0 for one that the type holds.
pub data WhyJudged (t : Ty) (v : Value) : ℕ → Type 0 where
  holds_it : holds_of t v ≡ true → WhyJudged t v 0
  -- "no such date, time or difference"
  four : exists_value v ≡ false → WhyJudged t v 4
  -- "exists, but not in the type"
  five : exists_value v ≡ true → in_type t v ≡ false → WhyJudged t v 5

-- Why a text has its number under a type.
pub data WhyAdmitted (t : Ty) (l : List ℕ) : ℕ → Type 0 where
  -- a description that no settings and no name give
  one : well_formed t ≡ false → WhyAdmitted t l 1
  -- "the text .. not of the type's form"
  three : well_formed t ≡ true → read_of (form_of t) l ≡ None → WhyAdmitted t l 3
  value : well_formed t ≡ true → (v : Value) (s : Spelling) → read_of (form_of t) l ≡ Some (v, s) → (n : ℕ) → WhyJudged t v n → WhyAdmitted t l n

module _ (t : Ty) (v : Value) where
  pub judgement_why : WhyJudged t v (judgement_number (judged t v))
  unfolding judged
  judgement_why = real (exists_value v) refl
    where
      inside : exists_value v ≡ true → (b : Bool) → in_type t v ≡ b → WhyJudged t v
          (judgement_number (cond b (Ok tt) (Err Refusal.Membership)))
      inside x true b = holds_it (holds_both t v x b)
      inside x false b = five x b

      real : (b : Bool) → exists_value v ≡ b → WhyJudged t v (judgement_number
          (cond b (cond (in_type t v) (Ok tt) (Err Refusal.Membership)) (Err Refusal.Existence)))
      real true b = inside b (in_type t v) refl
      real false b = four b

  pub judgement_only : (n : ℕ) → WhyJudged t v n → judgement_number (judged t v) ≡ n
  unfolding judged
  judgement_only n (holds_it h) = let p = held t v h in simp (p.0, p.1)
  judgement_only n (four x) = simp x
  judgement_only n (five x i) = simp (x, i)

given_number : (v : Value) (j : Result (Unit {0}) Refusal) → admission_number (given_as v j) ≡ judgement_number j
given_number v (Ok tt) = refl
given_number v (Err why) = refl

-- The number of a text that gives a value is 0.
pub given_told : (v : Value) → admission_number (Ok v) ≡ 0
given_told v = refl

module _ (t : Ty) (l : List ℕ) where
  pub admission_why : WhyAdmitted t l (admission_number (admitted t l))
  unfolding admitted
  admission_why = formed (well_formed t) refl
    where
      reads : well_formed t ≡ true → (r : Option (Value × Spelling)) → read_of (form_of t) l ≡ r → WhyAdmitted t l (admission_number (judged_read t r))
      reads w None r = three w r
      reads w (Some (v, s)) r = rw (given_number v (judged t v)) (value w v s r (judgement_number (judged t v)) (judgement_why t v))

      formed : (b : Bool) → well_formed t ≡ b → WhyAdmitted t l (admission_number
          (cond b (judged_read t (read_of (form_of t) l)) (Err Refusal.Settings)))
      formed true b = reads b (read_of (form_of t) l) refl
      formed false b = one b

  pub admission_only : (n : ℕ) → WhyAdmitted t l n → admission_number (admitted t l) ≡ n
  unfolding admitted
  admission_only n (one w) = simp w
  admission_only n (three w r) = simp (w, r)
  admission_only n (value w v s r m h) = rw (w, r) (given_number v (judged t v) ∙ judgement_only t v m h)

-- ---- a value's text as an answer

-- The canonical text of a value that exists, with the bits given; of no such value 4.
pub data WhyWritten (bits : Bits) (v : Value) : Answer → Type 0 where
  text : exists_value v ≡ true → WhyWritten bits v (done (text_of v) bits)
  four : (why : Refusal) → number_of why ≡ 4 → exists_value v ≡ false → WhyWritten bits v (refused why)

pub written_why : (bits : Bits) (v : Value) → WhyWritten bits v (written bits v)
unfolding written
written_why bits v = go (exists_value v) refl
  where
    go : (b : Bool) → exists_value v ≡ b → WhyWritten bits v (cond b (done (text_of v) bits) (refused Refusal.Existence))
    go true e = text e
    go false e = four Refusal.Existence refl e
