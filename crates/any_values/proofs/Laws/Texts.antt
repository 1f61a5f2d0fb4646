-- The text of a duration begins with `P`, and that of a point with another octet: so none is a text of both.
use Rattle.std.specs.Prelude.{None, Option, Some}
use mathlib.Core.Path.{◌≡◌, refl, ap, sym, ◌∙◌}
use mathlib.Core.Bool.{Bool, true, false, cond, false≢true}
use mathlib.Core.List.{List, ◌∷◌, ◌++◌, append_assoc}
use Prim.Native.Nat.{ℕ, ◌+◌, ◌/◌, ◌%◌}
use native.Mathlib.Omega.{arith}
use lib.Dec.{eqb, ltb}
use lib.IntN.{ℤ, pos, negsuc}
use borrow.Author.Tests.{eq-eqb, ne_eqb}
use Rattle.calendar.specs.Years.{astronomical_of}
use Rattle.texts.specs.Dates.{put_after, put_date}
use Rattle.texts.specs.Digits.{put_digits}
use Rattle.texts.specs.Forms.{year_of}
use Rattle.texts.specs.Octets.{first_octet, letter_t, plus}
use Rattle.texts.specs.Texts.{read_of, render}
use Rattle.texts.specs.Times.{put_clock, put_time}
use Rattle.texts.specs.Years.{longest_year, year_digits, year_text}
use Rattle.texts.specs.declared.forms.Form.{Form}
use Rattle.texts.specs.declared.values.Clock.{Clock}
use Rattle.texts.specs.declared.values.Spelling.{Spelling}
use Rattle.texts.specs.declared.values.Value.{Value}
use Rattle.texts.proofs.Laws.Texts.{render_read}
use Rattle.durations.specs.Texts.{DurationSpelling, get_duration, letter_p, put_duration, read_duration, render_duration}
use Rattle.durations.specs.declared.Duration.{Duration}
use Rattle.held_values.specs.Encodings.{of_text}

-- ---- what a text begins with

digit_head : (n : ℕ) → eqb (48 + n % 10) letter_p ≡ false
digit_head n = ne_eqb (48 + n % 10) letter_p (λ z. omega arith)

year_head : (y : ℤ) (r : List ℕ) → eqb (first_octet (year_text y ++ r)) letter_p ≡ false
unfolding year_text put_digits
year_head (negsuc k) r = refl
year_head (pos n) r = go (ltb n 10000)
  where
    go : (b : Bool) → eqb (first_octet (cond b (put_digits 4 n) (plus ∷ put_digits (year_digits n) n) ++ r)) letter_p ≡ false
    go true = digit_head (n / 10 / 10 / 10)
    go false = refl

clock_head : (c : Clock) (r : List ℕ) → eqb (first_octet (put_clock c ++ r)) letter_p ≡ false
unfolding put_clock put_digits
clock_head (Clock.H h) r = digit_head (h / 10)
clock_head (Clock.HM h m) r = digit_head (h / 10)
clock_head (Clock.HMS h m s) r = digit_head (h / 10)

-- A point's text does not begin with `P`.
pub point_head : (s : Spelling) (v : Value) → eqb (first_octet (render s v)) letter_p ≡ false
unfolding render put_date put_time
point_head s (Value.Date d) = year_head (astronomical_of (year_of d)) (put_after d)
point_head s (Value.Time t) = clock_head t.clock _
point_head s (Value.DateTime d t) =
    rw (append_assoc (year_text (astronomical_of (year_of d))) (put_after d) (letter_t ∷ put_time s t))
    (year_head (astronomical_of (year_of d)) (put_after d ++ letter_t ∷ put_time s t))

-- A duration's text begins with `P`.
pub duration_head : (s : DurationSpelling) (d : Duration) → first_octet (render_duration s d) ≡ letter_p
unfolding render_duration put_duration
duration_head s d = refl

-- ---- so none is a text of both

-- A text that does not begin with `P` is no duration's.
pub no-duration : (l : List ℕ) → eqb (first_octet l) letter_p ≡ false → read_duration l ≡ None
unfolding read_duration get_duration
no-duration l e = rw e

-- A text that begins with `P` is no point's.
pub no_point : (f : Form) (l : List ℕ) → first_octet l ≡ letter_p → of_text (read_of f l) ≡ None
no_point f l e = go (read_of f l) refl
  where
    go : (r : Option (Value × Spelling)) → read_of f l ≡ r → of_text r ≡ None
    go None q = refl
    go (Some (v, s)) q =
        let x = (render_read longest_year (omega arith) (omega arith) f l v s q).0 in
        absurd (false≢true (sym (point_head s v) ∙ eq-eqb _ _ (ap first_octet (sym x) ∙ e)))
