-- Canonical texts: a year's by its distance from the year 0000, how long they are, and in a lent buffer.
use mathlib.Core.Path.{◌≡◌, refl, ◌∙◌}
use mathlib.Core.Bool.{Bool, true, false, cond, and-false}
use mathlib.Core.List.{List, ◌∷◌}
use Prim.Native.Nat.{ℕ, zero, suc, ◌/◌, ◌≤◌, ◌<◌}
use native.Mathlib.Omega.{arith}
use lib.Dec.{ltb, eqb}
use lib.IntN.{ℤ, pos, negsuc}
use lib.ListN.{length, length-append, take}
use lib.Seq.{take_at}
use borrow.Author.Tests.{le-leb, lt-leb}
use Rattle.octets.specs.Stores.{StoredText}
use Rattle.octets.proofs.Laws.Stores.{sets-front}
use Rattle.calendar.specs.Years.{astronomical_of, distance_of}
use Rattle.calendar.specs.declared.years.Distance.{Distance}
use Rattle.calendar.specs.declared.dates.Date.{Date}
use Rattle.texts.specs.declared.values.Clock.{Clock}
use Rattle.texts.specs.declared.values.Zone.{Zone}
use Rattle.texts.specs.declared.values.Time.{Time}
use Rattle.texts.specs.declared.values.Value.{Value}
use Rattle.texts.specs.declared.parts.Fraction.{Fraction}
use Rattle.texts.specs.Octets.{hyphen, plus}
use Rattle.texts.specs.Digits.{put_digits}
use Rattle.texts.specs.Years.{size_in, year_digits, year_text}
use Rattle.texts.specs.Forms.{year_of, value_form, form_digits}
use Rattle.texts.specs.Dates.{put_after, put_date}
use Rattle.texts.specs.Times.{put_clock, fraction, put_fraction, put_minutes, put_zone, canonical, put_time}
use Rattle.texts.specs.Texts.{render, text_of}
use Rattle.printing.specs.Canonical.{text_capacity, printable, length_in, buffer_with}
use Rattle.texts.proofs.Laws.Digits.{length_put}

-- the text of a year before the year 0000, and since it
pub text_before : {d : Distance} {n : ℕ} (z : ℤ) → d ≡ distance_of z → d ≡ Distance.Before n → year_text z ≡ hyphen ∷ put_digits (year_digits n) n
unfolding year_text
text_before (pos k) e h = absurd (let q : ◌≡◌ {A = ℕ} 0 1 = cc in omega arith)
text_before {d} {n} (negsuc k) e h = let q : suc k ≡ n = cc in rw q

pub text_since : {d : Distance} {n : ℕ} (z : ℤ) → d ≡ distance_of z → d ≡ Distance.Since n
    → year_text z ≡ cond (ltb n 10000) (put_digits 4 n) (plus ∷ put_digits (year_digits n) n)
unfolding year_text
text_since {d} {n} (pos k) e h = let q : k ≡ n = cc in rw q
text_since (negsuc k) e h = absurd (let q : ◌≡◌ {A = ℕ} 0 1 = cc in omega arith)

-- ---- how long the texts are

both : {A : Type 0} (P : A → Type 0) (t : Bool) {a b : A} → P a → P b → P (cond t a b)
both P true p q = p
both P false p q = q

size_most : (f n : ℕ) → size_in f n ≤ f
unfolding size_in
size_most zero n = omega arith
size_most (suc f) n = let i = size_most f (n / 10) in both (λ (k : ℕ). k ≤ suc f) (eqb n 0) (omega arith) (omega arith)

digits_most : (n : ℕ) → year_digits n ≤ 20
unfolding year_digits
digits_most n = omega (arith, size_most 16 (n / 10000))

signed_length : (c n : ℕ) → length (c ∷ put_digits (year_digits n) n) ≤ 21
signed_length c n = simp length_put (omega (arith, digits_most n))

year_length : (z : ℤ) → length (year_text z) ≤ 21
unfolding year_text
year_length (pos n) = both (λ (t : List ℕ). length t ≤ 21) (ltb n 10000) (simp length_put (omega arith)) (signed_length plus n)
year_length (negsuc k) = signed_length hyphen (suc k)

after_length : (d : Date) → length (put_after d) ≤ 6
unfolding put_after
after_length (Date.Y y) = omega arith
after_length (Date.YM y m) = simp length_put (omega arith)
after_length (Date.YMD y m d) = simp (length-append, length_put) (omega arith)
after_length (Date.YD y d) = simp length_put (omega arith)
after_length (Date.YW y w) = simp length_put (omega arith)
after_length (Date.YWD y w d) = simp (length-append, length_put) (omega arith)

date_length : (d : Date) → length (put_date d) ≤ 27
unfolding put_date
date_length d = simp length-append (omega (arith, year_length (astronomical_of (year_of d)), after_length d))

clock_length : (c : Clock) → length (put_clock c) ≤ 8
unfolding put_clock
clock_length (Clock.H h) = simp length_put (omega arith)
clock_length (Clock.HM h m) = simp (length-append, length_put) (omega arith)
clock_length (Clock.HMS h m s) = simp (length-append, length_put) (omega arith)

pub fraction-length : (n : ℕ) (f : Fraction) → n ≤ 9 → length (put_fraction n f) ≤ 10
unfolding put_fraction
fraction-length n f h = both (λ (t : List ℕ). length t ≤ 10) (eqb n 0) (omega arith) (simp length_put (omega arith))

minutes_length : (m : ℕ) → length (put_minutes m false) ≤ 3
minutes_length m = both (λ (t : List ℕ). length t ≤ 3) (eqb m 0) (omega arith) (simp length_put (omega arith))

zone_length : (z : Zone) → length (put_zone false z) ≤ 6
unfolding put_zone
zone_length Zone.L = omega arith
zone_length Zone.Z = omega arith
zone_length (Zone.LD d) = simp (length-append, length_put) (omega (arith, minutes_length d.minutes))

time_length : (t : Time) → t.digits ≤ 9 → length (put_time canonical t) ≤ 24
unfolding put_time
time_length t h =
    let f = fraction-length t.digits (fraction false t.fraction) h in
    simp length-append (omega (arith, clock_length t.clock, zone_length t.zone))

pub text-length : (v : Value) → form_digits (value_form v) ≤ 9 → length (text_of v) ≤ 52
unfolding render
text-length (Value.Date d) h = omega (arith, date_length d)
text-length (Value.Time t) h = omega (arith, time_length t h)
text-length (Value.DateTime d t) h = simp length-append (omega (arith, date_length d, time_length t h))

-- ---- in a lent buffer

module _ (v : Value) (b : List ℕ) where
  pub can_print : form_digits (value_form v) ≤ 9 → text_capacity ≤ length b → printable v b ≡ true
  unfolding printable
  can_print h k = rw (le-leb _ _ h, le-leb _ _ k)

  pub many_digits : 9 < form_digits (value_form v) → printable v b ≡ false
  unfolding printable
  many_digits h = rw (lt-leb _ _ h)

  pub short_buffer : length b < text_capacity → printable v b ≡ false
  unfolding printable
  short_buffer h = rw (lt-leb _ _ h, and-false)

  pub not-printed : printable v b ≡ false → (0 ≡ length_in v b) × (b ≡ buffer_with v b)
  unfolding length_in buffer_with
  not-printed e = (rw e, rw e)

  pub printed : {m : List ℕ} {r : ℕ} → form_digits (value_form v) ≤ 9 → text_capacity ≤ length b → StoredText b m 0 (text_of v) r
      → (r ≡ length_in v b) × (m ≡ buffer_with v b)
  unfolding length_in buffer_with
  printed h k p =
      let l : length (text_of v) ≤ length b = omega (arith, text-length v h) in
      let e = can_print h k in
      (rw e (p.end ∙ omega arith), rw e (p.text ∙ sets-front b (text_of v) l))

  -- the answered length is the text's, and takes the text of the buffer
  pub text_size : printable v b ≡ true → length_in v b ≡ length (text_of v)
  unfolding length_in
  text_size e = rw e

  pub text-front : printable v b ≡ true → take (length_in v b) (buffer_with v b) ≡ text_of v
  unfolding length_in buffer_with
  text-front e = rw e (take_at (text_of v) _ (length (text_of v)) refl)
