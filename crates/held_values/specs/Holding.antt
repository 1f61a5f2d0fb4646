-- What a type holds. Years are astronomical years, and ranges have both their ends.
use Rattle.std.specs.Prelude.{Bool, true, not, ◌&&◌, ◌||◌, eqb, ℤ, Option, Some, None}
use Rattle.calendar.specs.declared.years.Year.{Year}
use Rattle.calendar.specs.Years.{astronomical_of}
use Rattle.calendar.specs.declared.dates.Date.{Date}
use Rattle.texts.specs.declared.values.Time.{Time}
use Rattle.texts.specs.declared.values.Value.{Value}
use Rattle.types.specs.declared.types.DateType.{DateType}
use Rattle.types.specs.declared.types.TimeType.{TimeType}
use Rattle.types.specs.declared.types.Parts.{Parts}
use Rattle.types.specs.declared.types.«Type».{«Type» as Ty}
use Rattle.texts.specs.Forms.{year_of, value_form}
use Rattle.types.specs.Types.{form_of, parts_of}
use Rattle.types.specs.Years.{between, in_years}
use Rattle.held_values.specs.Forms.{same_form}
use Rattle.held_values.specs.Existence.{hours_of, exists_value}

-- "a lowest and a highest year"
abbrev pub in_window : Option (Year × Year) → ℤ → Bool
in_window None y = true
in_window (Some (lowest, highest)) y = between (astronomical_of lowest) (astronomical_of highest) y

-- What a type asks of a date besides its form: a year of a Year setting that the type names, in its window.
unfoldable pub admits_date : DateType → Date → Bool
admits_date t date = in_years t.years (astronomical_of (year_of date)) && in_window t.window (astronomical_of (year_of date))

-- What a type asks of a time besides its form: not hour 24, where the type has "no hour 24".
unfoldable pub admits_time : TimeType → Time → Bool
admits_time t time = t.hour24 || not (eqb (hours_of time.clock) 24)

-- What a type asks of a value's date, where the value has one.
abbrev pub admits_date_of : DateType → Value → Bool
admits_date_of t (Value.Date date) = admits_date t date
admits_date_of t (Value.Time time) = true
admits_date_of t (Value.DateTime date time) = admits_date t date

-- What a type asks of a value's time, where the value has one.
abbrev pub admits_time_of : TimeType → Value → Bool
admits_time_of t (Value.Date date) = true
admits_time_of t (Value.Time time) = admits_time t time
admits_time_of t (Value.DateTime date time) = admits_time t time

-- "each year is of a Year setting that the type names, and the type's restrictions are met"
abbrev pub admits : Parts → Value → Bool
admits (Parts.Date date) value = admits_date_of date value
admits (Parts.Time time) value = admits_time_of time value
admits (Parts.DateTime date time) value = admits_date_of date value && admits_time_of time value

-- "the canonical text is of the type's form", and the type admits the value.
unfoldable pub in_type : Ty → Value → Bool
in_type t value = same_form (value_form value) (form_of t) && admits (parts_of t) value

-- "A type holds a value, one that exists by the rules below, when .."
unfoldable pub holds_of : Ty → Value → Bool
holds_of t value = exists_value value && in_type t value
