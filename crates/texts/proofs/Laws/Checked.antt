-- Texts as checked values, those of the paper first: each row holds of the definitions, and has its proof with it.
use Rattle.std.specs.Prelude.{Some, None}
use mathlib.Core.Path.{◌≡◌, refl}
use mathlib.Core.Bool.{true, false}
use mathlib.Core.List.{List, [], ◌∷◌}
use Prim.Native.Char.{code}
use Prim.Native.Nat.{ℕ}
use Prim.Native.String as S
use Prim.Native.String.{String}
use lib.IntN.{negsuc, pos}
use Rattle.calendar.specs.Years.{astronomical_of, year_at}
use Rattle.calendar.specs.declared.dates.Date.{Date}
use Rattle.texts.specs.Dates.{get_after, get_date, get_week, put_after, put_date}
use Rattle.texts.specs.Digits.{get_digits, get_field, leading, put_digits}
use Rattle.texts.specs.Forms.{value_form}
use Rattle.texts.specs.Texts.{get_value, read_of, read_up_to, render, text_of}
use Rattle.texts.specs.Times.{canonical, difference, get_after_hours, get_clock, get_difference, get_fraction, get_minutes, get_time, get_zone, put_clock}
use Rattle.texts.specs.Times.{put_fraction, put_time, put_zone, spelling}
use Rattle.texts.specs.Years.{get_signed, get_year, signed_fits, size_in, year_digits, year_text}
use Rattle.texts.specs.declared.forms.DateForm.{DateForm}
use Rattle.texts.specs.declared.forms.Form.{Form}
use Rattle.texts.specs.declared.values.Clock.{Clock}
use Rattle.texts.specs.declared.values.Spelling.{Spelling}
use Rattle.texts.specs.declared.values.Time.{Time}
use Rattle.texts.specs.declared.values.Value.{Value}
use Rattle.texts.specs.declared.values.Zone.{Zone}

abbrev chars : String → List ℕ
chars S.[] = []
chars (S.◌∷◌ c s) = code c ∷ chars s

abbrev time : Clock → ℕ → ℕ → Zone → Time
time c n f z = record { clock = c; digits = n; fraction = f; zone = z }

data Row : Type 0 where
  -- a value and its canonical text, which is read as the value again
  shown : (v : Value) (s : String) → text_of v ≡ chars s → read_of (value_form v) (chars s) ≡ Some (v, canonical) → Row
  -- a value and another spelling of it
  spelled : (v : Value) (s : String) (a : Spelling) → read_of (value_form v) (chars s) ≡ Some (v, a) → Row
  -- a text that is not of the form
  none : (f : DateForm) (s : String) → read_of (Form.Date f) (chars s) ≡ None → Row

texts_checked : List Row
unfolding astronomical_of year_at put_after put_date get_week get_after get_date put_digits get_digits get_field leading render get_value read_up_to put_clock get_after_hours
    get_clock put_fraction get_fraction put_zone get_minutes get_difference get_zone put_time get_time size_in year_digits year_text signed_fits get_signed get_year
texts_checked =
    -- "`2006`, `2006-06`, `2006-06-13`, `2006-164`, `2006-W24`, `2006-W24-2`"
    shown (Value.Date (Date.Y (year_at (pos 2006)))) "2006" refl refl ∷
    shown (Value.Date (Date.YM (year_at (pos 2006)) 6)) "2006-06" refl refl ∷
    shown (Value.Date (Date.YMD (year_at (pos 2006)) 6 13)) "2006-06-13" refl refl ∷
    shown (Value.Date (Date.YD (year_at (pos 2006)) 164)) "2006-164" refl refl ∷
    shown (Value.Date (Date.YW (year_at (pos 2006)) 24)) "2006-W24" refl refl ∷
    shown (Value.Date (Date.YWD (year_at (pos 2006)) 24 2)) "2006-W24-2" refl refl ∷
    -- "four digits, `-` and four digits not all 0, or a sign and five digits not beginning with 0"
    shown (Value.Date (Date.Y (year_at (pos 0)))) "0000" refl refl ∷
    shown (Value.Date (Date.Y (year_at (negsuc 127)))) "-0128" refl refl ∷
    shown (Value.Date (Date.Y (year_at (pos 32767)))) "+32767" refl refl ∷
    shown (Value.Date (Date.Y (year_at (negsuc 99998)))) "-99999" refl refl ∷
    none DateForm.Y "+2006" refl ∷
    none DateForm.Y "-0000" refl ∷
    none DateForm.Y "12006" refl ∷
    none DateForm.Y "+02006" refl ∷
    -- "A sign with six to nine digits, the first not 0, is from now on of the form" (#103)
    shown (Value.Date (Date.Y (year_at (pos 100000)))) "+100000" refl refl ∷
    shown (Value.Date (Date.Y (year_at (negsuc 99999)))) "-100000" refl refl ∷
    shown (Value.Date (Date.Y (year_at (pos 999999)))) "+999999" refl refl ∷
    shown (Value.Date (Date.Y (year_at (negsuc 999998)))) "-999999" refl refl ∷
    shown (Value.Date (Date.Y (year_at (pos 1000000)))) "+1000000" refl refl ∷
    shown (Value.Date (Date.Y (year_at (negsuc 999999)))) "-1000000" refl refl ∷
    shown (Value.Date (Date.Y (year_at (pos 9999999)))) "+9999999" refl refl ∷
    shown (Value.Date (Date.Y (year_at (negsuc 9999998)))) "-9999999" refl refl ∷
    shown (Value.Date (Date.Y (year_at (pos 10000000)))) "+10000000" refl refl ∷
    shown (Value.Date (Date.Y (year_at (negsuc 9999999)))) "-10000000" refl refl ∷
    shown (Value.Date (Date.Y (year_at (pos 99999999)))) "+99999999" refl refl ∷
    shown (Value.Date (Date.Y (year_at (negsuc 99999998)))) "-99999999" refl refl ∷
    shown (Value.Date (Date.Y (year_at (pos 100000000)))) "+100000000" refl refl ∷
    shown (Value.Date (Date.Y (year_at (negsuc 99999999)))) "-100000000" refl refl ∷
    shown (Value.Date (Date.Y (year_at (pos 999999999)))) "+999999999" refl refl ∷
    shown (Value.Date (Date.Y (year_at (negsuc 999999998)))) "-999999999" refl refl ∷
    shown (Value.Date (Date.YMD (year_at (pos 123456)) 2 30)) "+123456-02-30" refl refl ∷
    shown (Value.Date (Date.YWD (year_at (negsuc 999999998)) 53 7)) "-999999999-W53-7" refl refl ∷
    none DateForm.Y "+0000000000" refl ∷
    none DateForm.Y "+011985" refl ∷
    none DateForm.YMD "+011985-04-12" refl ∷
    none DateForm.Y "-0119850" refl ∷
    none DateForm.Y "+01198500" refl ∷
    none DateForm.Y "-011985000" refl ∷
    none DateForm.Y "1000000" refl ∷
    none DateForm.Y "+1000000000" refl ∷
    none DateForm.Y "-1000000000" refl ∷
    none DateForm.Y "+4294967296" refl ∷
    none DateForm.Y "+18446744073709551616" refl ∷
    -- "two-digit fields with `:` between, then for Fn a `.` or `,` and exactly n digits, then nothing (L), `Z`, or a sign .."
    shown (Value.Time (time (Clock.H 15) 0 0 Zone.L)) "15" refl refl ∷
    shown (Value.Time (time (Clock.HM 15 27) 0 0 Zone.Z)) "15:27Z" refl refl ∷
    shown (Value.Time (time (Clock.HMS 15 27 46) 3 500 Zone.L)) "15:27:46.500" refl refl ∷
    shown (Value.Time (time (Clock.HM 15 27) 1 5 (difference false 1 0))) "15:27.5+01" refl refl ∷
    shown (Value.Time (time (Clock.H 15) 0 0 (difference true 1 30))) "15-01:30" refl refl ∷
    -- "full stop for comma; the difference's minutes dropped when 0"
    spelled (Value.Time (time (Clock.HMS 15 27 46) 3 500 Zone.L)) "15:27:46,500" (spelling true false) refl ∷
    spelled (Value.Time (time (Clock.HM 15 27) 2 50 Zone.Z)) "15:27,50Z" (spelling true false) refl ∷
    spelled (Value.Time (time (Clock.H 15) 1 5 (difference true 9 30))) "15,5-09:30" (spelling true false) refl ∷
    spelled (Value.Time (time (Clock.H 15) 0 0 (difference false 1 0))) "15+01:00" (spelling false true) refl ∷
    spelled (Value.Time (time (Clock.H 15) 0 0 (difference false 0 0))) "15+00:00" (spelling false true) refl ∷
    spelled (Value.Time (time (Clock.H 15) 0 0 (difference true 0 0))) "15-00:00" (spelling false true) refl ∷
    spelled (Value.Time (time (Clock.HM 15 27) 1 5 (difference true 9 0))) "15:27,5-09:00" (spelling true true) refl ∷
    -- "A date-time has `T` between."
    shown (Value.DateTime (Date.YMD (year_at (pos 2006)) 6 13) (time (Clock.HMS 15 27 46) 0 0 Zone.L)) "2006-06-13T15:27:46" refl refl ∷
    spelled (Value.DateTime (Date.YW (year_at (pos 2006)) 24) (time (Clock.H 15) 0 0 (difference false 1 0))) "2006-W24T15+01:00" (spelling false true) refl ∷
    -- "a field of the right digit count is of the form at any number, so month 13, weekday 8 or hour 25"
    shown (Value.Date (Date.YMD (year_at (pos 2006)) 13 99)) "2006-13-99" refl refl ∷
    shown (Value.Date (Date.YD (year_at (pos 2006)) 999)) "2006-999" refl refl ∷
    shown (Value.Date (Date.YWD (year_at (pos 2006)) 99 8)) "2006-W99-8" refl refl ∷
    shown (Value.Time (time (Clock.HMS 25 99 99) 0 0 (difference true 0 99))) "25:99:99-00:99" refl refl ∷
    none DateForm.YM "2006-6" refl ∷
    none DateForm.YMD "2006-06-131" refl ∷
    none DateForm.YD "2006-64" refl ∷
    none DateForm.YMD "2006-164" refl ∷
    -- no small letter, no space, no quotation mark
    none DateForm.YW "2006-w24" refl ∷
    none DateForm.YMD " 2006-06-13" refl ∷
    none DateForm.YMD "2006-06-13 " refl ∷
    none DateForm.YMD "\"2006-06-13\"" refl ∷
    []
