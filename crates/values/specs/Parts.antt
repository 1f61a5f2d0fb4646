-- The parts of a value, which exist each for itself.
use Rattle.std.specs.Prelude.{Bool, true}
use Rattle.calendar.specs.Dates.{exists_of}
use Rattle.texts.specs.declared.values.Value.{Value}
use Rattle.held_values.specs.Existence.{exists_time}

-- Whether the date of a value exists, where it has one.
abbrev pub exists_date_of : Value → Bool
exists_date_of (Value.Date date) = exists_of date
exists_date_of (Value.Time time) = true
exists_date_of (Value.DateTime date time) = exists_of date

-- Whether the time of a value exists, where it has one.
abbrev pub exists_time_of : Value → Bool
exists_time_of (Value.Date date) = true
exists_time_of (Value.Time time) = exists_time time
exists_time_of (Value.DateTime date time) = exists_time time
