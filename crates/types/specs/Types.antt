-- "What a type is": its settings, its name, and the restrictions that it carries.
use Rattle.std.specs.Prelude.{ℕ, Bool, true, false, ◌&&◌, ◌||◌, leb, Option, Some, None}
use Rattle.calendar.specs.declared.years.Year.{Year}
use Rattle.answers.specs.Refusals.{number_of}
use Rattle.texts.specs.declared.forms.DateForm.{DateForm}
use Rattle.texts.specs.declared.forms.ClockForm.{ClockForm}
use Rattle.texts.specs.declared.forms.ZoneForm.{ZoneForm}
use Rattle.texts.specs.declared.forms.TimeForm.{TimeForm}
use Rattle.texts.specs.declared.forms.Form.{Form}
use Rattle.answers.specs.declared.refusals.Refusal.{Refusal}
use Rattle.types.specs.declared.years.Years.{Years}
use Rattle.types.specs.Years.{some_year}
use Rattle.types.specs.declared.types.DateType.{DateType}
use Rattle.types.specs.declared.types.TimeType.{TimeType}
use Rattle.types.specs.declared.types.Parts.{Parts}
use Rattle.types.specs.declared.types.Name.{Name}
use Rattle.types.specs.declared.types.«Type».{«Type»}
use Rattle.types.specs.declared.types.Limits.{Limits}
use Rattle.types.specs.declared.types.TypeRead.{TypeRead}

-- "The seven numbers" of what a type's text gives: 0 for a type, 1 for settings and restrictions, 2 for rows.
abbrev pub type_number : TypeRead → ℕ
type_number (TypeRead.«Type» t) = 0
type_number TypeRead.Unreadable = number_of Refusal.Settings
type_number TypeRead.NoRow = number_of Refusal.Rows

-- A date without a restriction.
abbrev pub unlimited_date : DateForm → Years → DateType
unlimited_date f y = record { form = f; years = y; window = None }

-- A time without a restriction.
abbrev pub unlimited_time : TimeForm → TimeType
unlimited_time f = record { form = f; hour24 = true }

-- A type that is given by its settings and not by the name of a useful time type (34 bis.4).
abbrev pub listed : Parts → «Type»
listed p = «Type».Listed p

-- "The names DATE, TIME-OF-DAY and DATE-TIME may stand for their settings (34 bis.4): YMD with Year=Basic".
abbrev pub ymd_basic : DateType
ymd_basic = unlimited_date DateForm.YMD (Years.Plain (record { basic = true; proleptic = false }))

-- "The names .. may stand for their settings (34 bis.4): .. HMS with L"; DATE-TIME stands for "both together".
abbrev pub hms_local : TimeType
hms_local = unlimited_time (record { clock = ClockForm.HMS; digits = 0; zone = ZoneForm.L })

-- The type DATE.
abbrev pub DATE : «Type»
DATE = «Type».Date None

-- The type TIME-OF-DAY.
abbrev pub TIME-OF-DAY : «Type»
TIME-OF-DAY = «Type».TimeOfDay true

-- The type DATE-TIME.
abbrev pub DATE-TIME : «Type»
DATE-TIME = «Type».DateTime None true

-- Whether the value has a date.
abbrev pub has_date : Parts → Bool
has_date (Parts.Date d) = true
has_date (Parts.Time t) = false
has_date (Parts.DateTime d t) = true

-- Whether the value has a time.
abbrev pub has_time : Parts → Bool
has_time (Parts.Date d) = false
has_time (Parts.Time t) = true
has_time (Parts.DateTime d t) = true

-- Whether there is no lowest and highest year.
abbrev pub every_year : Option (Year × Year) → Bool
every_year None = true
every_year (Some (lowest, highest)) = false

-- "a lowest and a highest year (only where there is a date, else refusal 1), and "no hour 24" (only where there is a time, else refusal 1)"
unfoldable pub placed : Limits → Bool → Bool → Bool
placed limits date time = (every_year limits.window || date) && (limits.hour24 || time)

-- A date with this lowest and highest year.
abbrev pub with_window : Option (Year × Year) → DateType → DateType
with_window w d = record { form = d.form; years = d.years; window = w }

-- A time with or without hour 24.
abbrev pub with_hour24 : Bool → TimeType → TimeType
with_hour24 h t = record { form = t.form; hour24 = h }

-- Settings with the restrictions of these limits, and no other.
abbrev pub restricted : Limits → Parts → Parts
restricted limits (Parts.Date d) = Parts.Date (with_window limits.window d)
restricted limits (Parts.Time t) = Parts.Time (with_hour24 limits.hour24 t)
restricted limits (Parts.DateTime d t) = Parts.DateTime (with_window limits.window d) (with_hour24 limits.hour24 t)

-- The settings of a type: those that are listed, or those that its name stands for, with its restrictions.
abbrev pub parts_of : «Type» → Parts
parts_of («Type».Listed p) = p
parts_of («Type».Date w) = Parts.Date (with_window w ymd_basic)
parts_of («Type».TimeOfDay h) = Parts.Time (with_hour24 h hms_local)
parts_of («Type».DateTime w h) = Parts.DateTime (with_window w ymd_basic) (with_hour24 h hms_local)

-- A type's name, or that its settings are listed: what decides the tag.
abbrev pub name_of : «Type» → Name
name_of («Type».Listed p) = Name.Listed
name_of («Type».Date w) = Name.Date
name_of («Type».TimeOfDay h) = Name.TimeOfDay
name_of («Type».DateTime w h) = Name.DateTime

-- A type with the restrictions of these limits, and no other; a name stays.
abbrev pub carrying : Limits → «Type» → «Type»
carrying limits («Type».Listed p) = «Type».Listed (restricted limits p)
carrying limits («Type».Date w) = «Type».Date limits.window
carrying limits («Type».TimeOfDay h) = «Type».TimeOfDay limits.hour24
carrying limits («Type».DateTime w h) = «Type».DateTime limits.window limits.hour24

-- "A type may carry two restrictions": neither of them.
abbrev pub no_limits : Limits
no_limits = record { window = None; hour24 = true }

-- "A type may carry two restrictions": those that a type carries.
abbrev pub limits_of : Parts → Limits
limits_of (Parts.Date d) = record { window = d.window; hour24 = true }
limits_of (Parts.Time t) = record { window = None; hour24 = t.hour24 }
limits_of (Parts.DateTime d t) = record { window = d.window; hour24 = t.hour24 }

-- "`Time`: .. HFn, HMFn, HMSFn, with n from 1 to 9."
abbrev pub few_digits : TimeType → Bool
few_digits t = leb t.form.digits 9

-- What a type that is listed has to meet.
abbrev pub well_parts : Parts → Bool
well_parts (Parts.Date d) = some_year d.years
well_parts (Parts.Time t) = few_digits t
well_parts (Parts.DateTime d t) = some_year d.years && few_digits t

-- A type that settings or a name can give; any other is refusal 1.
abbrev pub well_formed : «Type» → Bool
well_formed («Type».Listed p) = well_parts p
well_formed («Type».Date w) = true
well_formed («Type».TimeOfDay h) = true
well_formed («Type».DateTime w h) = true

-- "The form is what a text shows of the settings, n included and Year left out."
abbrev pub form_of_parts : Parts → Form
form_of_parts (Parts.Date d) = Form.Date d.form
form_of_parts (Parts.Time t) = Form.Time t.form
form_of_parts (Parts.DateTime d t) = Form.DateTime d.form t.form

-- The form of a type.
abbrev pub form_of : «Type» → Form
form_of t = form_of_parts (parts_of t)

-- "A type's number of fraction digits is n, or 0 without Fn."
abbrev pub digits_of_parts : Parts → ℕ
digits_of_parts (Parts.Date d) = 0
digits_of_parts (Parts.Time t) = t.form.digits
digits_of_parts (Parts.DateTime d t) = t.form.digits

-- The number of fraction digits of a type.
abbrev pub fraction_digits : «Type» → ℕ
fraction_digits t = digits_of_parts (parts_of t)
