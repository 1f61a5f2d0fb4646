-- "The form is what a text shows of the settings, n included and Year left out."
use mathlib.Core.Path.{◌≡◌, refl, ap}
use Prim.Native.Nat.{ℕ}
use native.Mathlib.Omega.{arith}
use Rattle.texts.specs.Forms.{form_digits}
use Rattle.types.specs.Types.{digits_of_parts, form_of, form_of_parts, fraction_digits, parts_of}
use Rattle.types.specs.declared.types.DateType.{DateType}
use Rattle.types.specs.declared.types.Parts.{Parts}
use Rattle.types.specs.declared.types.TimeType.{TimeType}
use Rattle.types.specs.declared.types.«Type».{«Type»}
use Rattle.texts.specs.declared.forms.Form.{Form}

-- That types have the same settings, with Year and the restrictions left out.
pub data SameSettings : Parts → Parts → Type 0 where
  date : {d e : DateType} → d.form ≡ e.form → SameSettings (Parts.Date d) (Parts.Date e)
  time : {t u : TimeType} → t.form ≡ u.form → SameSettings (Parts.Time t) (Parts.Time u)
  date_time : {d e : DateType} {t u : TimeType} → d.form ≡ e.form → t.form ≡ u.form → SameSettings (Parts.DateTime d t) (Parts.DateTime e u)

-- Types of one form have the same settings, with Year and the restrictions left out.
pub form-settings : (p q : Parts) → form_of_parts p ≡ form_of_parts q → SameSettings p q
form-settings (Parts.Date d) (Parts.Date e) f = let x : d.form ≡ e.form = cc in date x
form-settings (Parts.Date d) (Parts.Time u) f = absurd (let z : ◌≡◌ {A = ℕ} 0 1 = cc in omega arith)
form-settings (Parts.Date d) (Parts.DateTime e u) f = absurd (let z : ◌≡◌ {A = ℕ} 0 1 = cc in omega arith)
form-settings (Parts.Time t) (Parts.Date e) f = absurd (let z : ◌≡◌ {A = ℕ} 0 1 = cc in omega arith)
form-settings (Parts.Time t) (Parts.Time u) f = let x : t.form ≡ u.form = cc in time x
form-settings (Parts.Time t) (Parts.DateTime e u) f = absurd (let z : ◌≡◌ {A = ℕ} 0 1 = cc in omega arith)
form-settings (Parts.DateTime d t) (Parts.Date e) f = absurd (let z : ◌≡◌ {A = ℕ} 0 1 = cc in omega arith)
form-settings (Parts.DateTime d t) (Parts.Time u) f = absurd (let z : ◌≡◌ {A = ℕ} 0 1 = cc in omega arith)
form-settings (Parts.DateTime d t) (Parts.DateTime e u) f = let x : d.form ≡ e.form = cc in let y : t.form ≡ u.form = cc in date_time x y

-- Types with the same settings, with Year and the restrictions left out, are of one form.
pub settings-form : (p q : Parts) → SameSettings p q → form_of_parts p ≡ form_of_parts q
settings-form p q (date f) = ap Form.Date f
settings-form p q (time f) = ap Form.Time f
settings-form p q (date_time f g) = rw (f, g)

-- "A type's number of fraction digits is n": its texts show it.
pub digits-shown : (t : «Type») → form_digits (form_of t) ≡ fraction_digits t
digits-shown t = go (parts_of t)
  where
    go : (p : Parts) → form_digits (form_of_parts p) ≡ digits_of_parts p
    go (Parts.Date d) = refl
    go (Parts.Time u) = refl
    go (Parts.DateTime d u) = refl
