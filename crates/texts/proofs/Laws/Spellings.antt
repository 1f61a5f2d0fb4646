-- What a spelling changes of a canonical text: a comma for the full stop, `:00` behind a difference's hours, and nothing else.
use Rattle.std.specs.Prelude.{Some}
use mathlib.Core.Path.{◌≡◌, refl, sym, ap, ◌∙◌}
use mathlib.Core.Bool.{Bool, true, false, ◌&&◌, not, cond}
use mathlib.Core.List.{List, [], ◌∷◌, ◌++◌, append_assoc, append-nil}
use Prim.Native.Nat.{ℕ, zero, suc, ◌+◌, ◌/◌, ◌%◌, ◌≤◌}
use native.Mathlib.Omega.{arith}
use lib.Dec.{eqb, ltb}
use lib.IntN.{ℤ, pos, negsuc}
use borrow.Author.Tests.{ne_eqb, eqb-true}
use Rattle.calendar.specs.Years.{astronomical_of}
use Rattle.calendar.specs.declared.dates.Date.{Date}
use Rattle.texts.specs.declared.values.Clock.{Clock}
use Rattle.texts.specs.declared.values.Zone.{Zone}
use Rattle.texts.specs.declared.values.Time.{Time}
use Rattle.texts.specs.declared.values.Value.{Value}
use Rattle.texts.specs.declared.values.Spelling.{Spelling}
use Rattle.texts.specs.declared.forms.Form.{Form}
use Rattle.texts.specs.Octets.{hyphen, plus, colon, comma, stop, letter_t}
use Rattle.texts.specs.Digits.{put_digits}
use Rattle.texts.specs.Years.{put_year, year_digits, year_text}
use Rattle.texts.specs.Forms.{year_of, value_form}
use Rattle.texts.specs.Dates.{put_after, put_date}
use Rattle.texts.specs.Times.{put_clock, fraction, put_fraction, put_minutes, put_zone, put_time, canonical}
use Rattle.texts.specs.Texts.{render, text_of, shown_in, read_up_to}
use Rattle.texts.proofs.Laws.Fits.{Fits}
use Rattle.texts.proofs.Laws.Texts.{read_render, render_read}

-- A text with a comma for each full stop.
unfoldable pub stops_as_commas : List ℕ → List ℕ
stops_as_commas [] = []
stops_as_commas (c ∷ l) = cond (eqb c 46) 44 c ∷ stops_as_commas l

-- Whether a zone is a difference of whole hours: one that is written with `:00` or without.
abbrev pub whole_hours : Zone → Bool
whole_hours Zone.L = false
whole_hours Zone.Z = false
whole_hours (Zone.LD d) = eqb d.minutes 0

-- Whether a value's text may end in `:00` behind a difference's hours.
abbrev pub zero_shown : Value → Bool
zero_shown (Value.Date d) = false
zero_shown (Value.Time t) = whole_hours t.zone
zero_shown (Value.DateTime d t) = whole_hours t.zone

-- `:00`, or nothing.
abbrev pub zero_minutes_text : Bool → List ℕ
zero_minutes_text shown = cond shown (58 ∷ 48 ∷ 48 ∷ []) []

-- The canonical text of a value, with a comma for the full stop where the spelling says so, and with `:00` behind it where the spelling says
-- so and the value ends in a difference of whole hours, that of 0 hours too.
abbrev pub spelled_text : Spelling → Value → List ℕ
spelled_text s v = cond s.comma (stops_as_commas (text_of v)) (text_of v) ++ zero_minutes_text (zero_shown v && s.zeros)

-- ---- texts without a full stop

plain : List ℕ → Bool
plain [] = true
plain (c ∷ l) = not (eqb c 46) && plain l

plain-append : (l r : List ℕ) → plain l ≡ true → plain r ≡ true → plain (l ++ r) ≡ true
unfolding plain
plain-append [] r g h = h
plain-append (c ∷ l) r g h = go (eqb c 46) g (λ e. plain-append l r e h) where
  go : (t : Bool) → (not t && plain l) ≡ true → (plain l ≡ true → plain (l ++ r) ≡ true) → (not t && plain (l ++ r)) ≡ true
  go true e f = absurd (let z : ◌≡◌ {A = ℕ} 0 1 = cc in omega arith)
  go false e f = f e

plain-digits : (w n : ℕ) → plain (put_digits w n) ≡ true
unfolding plain put_digits
plain-digits zero n = refl
plain-digits (suc w) n =
    plain-append (put_digits w (n / 10)) ((48 + n % 10) ∷ []) (plain-digits w (n / 10))
    (rw (ne_eqb (48 + n % 10) 46 (λ z. omega arith)))

plain_year : (y : ℤ) → plain (year_text y) ≡ true
unfolding plain year_text
plain_year (pos n) = go (ltb n 10000) where
  go : (t : Bool) → plain (cond t (put_digits 4 n) (plus ∷ put_digits (year_digits n) n)) ≡ true
  go true = plain-digits 4 n
  go false = plain-digits (year_digits n) n
plain_year (negsuc k) = plain-digits (year_digits (suc k)) (suc k)

plain_after : (d : Date) → plain (put_after d) ≡ true
unfolding plain put_after
plain_after (Date.Y y) = refl
plain_after (Date.YM y m) = plain-digits 2 m
plain_after (Date.YMD y m d) = plain-append (put_digits 2 m) (hyphen ∷ put_digits 2 d) (plain-digits 2 m) (plain-digits 2 d)
plain_after (Date.YD y d) = plain-digits 3 d
plain_after (Date.YW y w) = plain-digits 2 w
plain_after (Date.YWD y w d) = plain-append (put_digits 2 w) (hyphen ∷ put_digits 1 d) (plain-digits 2 w) (plain-digits 1 d)

plain_date : (d : Date) → plain (put_date d) ≡ true
unfolding put_date
plain_date d = plain-append (put_year (year_of d)) (put_after d) (plain_year (astronomical_of (year_of d))) (plain_after d)

plain_clock : (c : Clock) → plain (put_clock c) ≡ true
unfolding plain put_clock
plain_clock (Clock.H h) = plain-digits 2 h
plain_clock (Clock.HM h m) = plain-append (put_digits 2 h) (colon ∷ put_digits 2 m) (plain-digits 2 h) (plain-digits 2 m)
plain_clock (Clock.HMS h m s) =
    plain-append (put_digits 2 h) (colon ∷ (put_digits 2 m ++ colon ∷ put_digits 2 s)) (plain-digits 2 h)
    (plain-append (put_digits 2 m) (colon ∷ put_digits 2 s) (plain-digits 2 m) (plain-digits 2 s))

plain_zone : (v : Zone) → plain (put_zone false v) ≡ true
unfolding plain put_zone
plain_zone Zone.L = refl
plain_zone Zone.Z = refl
plain_zone (Zone.LD d) = sign d.behind where
  minutes : (t : Bool) → plain (cond t [] (colon ∷ put_digits 2 d.minutes)) ≡ true
  minutes true = refl
  minutes false = plain-digits 2 d.minutes

  rest : plain (put_digits 2 d.hours ++ put_minutes d.minutes false) ≡ true
  rest = plain-append (put_digits 2 d.hours) (put_minutes d.minutes false) (plain-digits 2 d.hours) (minutes (eqb d.minutes 0))

  sign : (t : Bool) → plain (cond t hyphen plus ∷ (put_digits 2 d.hours ++ put_minutes d.minutes false)) ≡ true
  sign true = rest
  sign false = rest

-- ---- a comma for the full stop

-- a text spelled with a comma, or as it is
unfoldable spelled_with : Bool → List ℕ → List ℕ
spelled_with comma l = cond comma (stops_as_commas l) l

stops_append : (l r : List ℕ) → stops_as_commas (l ++ r) ≡ stops_as_commas l ++ stops_as_commas r
unfolding stops_as_commas
stops_append [] r = refl
stops_append (c ∷ l) r = ap (λ (x : List ℕ). cond (eqb c 46) 44 c ∷ x) (stops_append l r)

stops_plain : (l : List ℕ) → plain l ≡ true → stops_as_commas l ≡ l
unfolding stops_as_commas plain
stops_plain [] h = refl
stops_plain (c ∷ l) h = go (eqb c 46) h (stops_plain l) where
  go : (t : Bool) → (not t && plain l) ≡ true → (plain l ≡ true → stops_as_commas l ≡ l) → (cond t 44 c ∷ stops_as_commas l) ≡ (c ∷ l)
  go true e f = absurd (let z : ◌≡◌ {A = ℕ} 0 1 = cc in omega arith)
  go false e f = ap (λ (x : List ℕ). c ∷ x) (f e)

-- what is plain keeps its place in front or behind
in-front : (t : Bool) (l r : List ℕ) → plain l ≡ true → spelled_with t (l ++ r) ≡ l ++ spelled_with t r
unfolding spelled_with
in-front true l r h = rw (stops_append l r, stops_plain l h)
in-front false l r h = refl

behind : (t : Bool) (l r : List ℕ) → plain r ≡ true → spelled_with t (l ++ r) ≡ spelled_with t l ++ r
unfolding spelled_with
behind true l r h = rw (stops_append l r, stops_plain r h)
behind false l r h = refl

plain-spelled : (t : Bool) (l : List ℕ) → plain l ≡ true → spelled_with t l ≡ l
unfolding spelled_with
plain-spelled true l h = stops_plain l h
plain-spelled false l h = refl

spelled-fraction : (n m : ℕ) (t : Bool) → put_fraction n (fraction t m) ≡ spelled_with t (put_fraction n (fraction false m))
unfolding put_fraction spelled_with stops_as_commas
spelled-fraction n m true = go (eqb n 0) where
  go : (u : Bool) → cond u [] (comma ∷ put_digits n m) ≡ stops_as_commas (cond u [] (stop ∷ put_digits n m))
  go true = refl
  go false = ap (λ (x : List ℕ). comma ∷ x) (sym (stops_plain (put_digits n m) (plain-digits n m)))
spelled-fraction n m false = refl

-- ---- `:00` behind a difference's hours

spelled_minutes : (m : ℕ) (t z : Bool) → eqb m 0 ≡ t → put_minutes m z ≡ put_minutes m false ++ zero_minutes_text (t && z)
unfolding put_digits
spelled_minutes m true true e = rw (e, eqb-true m 0 e)
spelled_minutes m true false e = rw e
spelled_minutes m false z e = rw e (simp append-nil)

spelled_zone : (v : Zone) (z : Bool) → put_zone z v ≡ put_zone false v ++ zero_minutes_text (whole_hours v && z)
unfolding put_zone
spelled_zone Zone.L z = refl
spelled_zone Zone.Z z = refl
spelled_zone (Zone.LD d) z = rw (spelled_minutes d.minutes (eqb d.minutes 0) z refl) (simp append_assoc)

spelled_time : (s : Spelling) (t : Time) → put_time s t ≡ spelled_with s.comma (put_time canonical t) ++ zero_minutes_text (whole_hours t.zone && s.zeros)
unfolding put_time
spelled_time s t =
    rw (
      in-front s.comma (put_clock t.clock) (put_fraction t.digits (fraction false t.fraction) ++ put_zone false t.zone) (plain_clock t.clock),
      behind s.comma (put_fraction t.digits (fraction false t.fraction)) (put_zone false t.zone) (plain_zone t.zone),
      ← spelled-fraction t.digits t.fraction s.comma,
      spelled_zone t.zone s.zeros,
    ) (simp append_assoc)

spelled_date_time : (t : Bool) (d : Date) (r : List ℕ) → spelled_with t (put_date d ++ letter_t ∷ r) ≡ put_date d ++ letter_t ∷ spelled_with t r
unfolding plain
spelled_date_time t d r = in-front t (put_date d) (letter_t ∷ r) (plain_date d) ∙ ap (λ (x : List ℕ). put_date d ++ x) (in-front t (letter_t ∷ []) r refl)

-- Every text of a value in a spelling is the canonical text with the comma and the `:00` that the spelling says.
pub spelled_only : (s : Spelling) (v : Value) → render s v ≡ spelled_text s v
unfolding render spelled_with
spelled_only s (Value.Date d) = sym (ap (λ (x : List ℕ). x ++ []) (plain-spelled s.comma (put_date d) (plain_date d)) ∙ append-nil (put_date d))
spelled_only s (Value.Time t) = spelled_time s t
spelled_only s (Value.DateTime d t) =
    let minutes : List ℕ = zero_minutes_text (whole_hours t.zone && s.zeros) in
    rw (spelled_time s t)
    (sym (ap (λ (x : List ℕ). x ++ minutes) (spelled_date_time s.comma d (put_time canonical t)) ∙ append_assoc (put_date d) _ minutes))

-- What is read is a text in one of these spellings and in no other: no small letter, no space and no quotation mark is read.
pub read_spelled : (most : ℕ) → 4 ≤ most → most ≤ 9 → (f : Form) (l : List ℕ) (v : Value) (s : Spelling) →
    read_up_to most f l ≡ Some (v, s) → l ≡ spelled_text s v
read_spelled most low high f l v s e = (render_read most low high f l v s e).0 ∙ spelled_only s v

-- A text in each of these spellings is read: a comma in every form with a fraction, `:00` in every form with a difference.
pub spelled_read : (most : ℕ) → 4 ≤ most → most ≤ 20 → (s : Spelling) (v : Value) → Fits most v →
    read_up_to most (value_form v) (spelled_text s v) ≡ Some (v, (shown_in s v))
spelled_read most low high s v h = rw (← spelled_only s v) (read_render most low high s v h)
