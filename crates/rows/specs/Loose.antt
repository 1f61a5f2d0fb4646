-- A loose spelling: what the lenient reader takes for a value besides the encoder's own bits. "integer not shortest, choice 3 for
-- 1749 to 2276, a fraction up to 999 after a 1 bit, filling not zero, .. octets left over".
use Rattle.std.specs.Prelude.{◌≡◌, ℕ, zero, suc, Bool, true, cond, List, [], ◌++◌, ℤ}
use Rattle.calendar.specs.Years.{astronomical_of}
use Rattle.calendar.specs.declared.dates.Date.{Date}
use Rattle.texts.specs.Forms.{year_of, value_form}
use Rattle.texts.specs.declared.forms.Form.{Form}
use Rattle.texts.specs.declared.values.Time.{Time}
use Rattle.texts.specs.declared.values.Value.{Value}
use Rattle.fields.specs.Bits.{BitString}
use Rattle.fields.specs.Fields.{Field}
use Rattle.fields.specs.Spelled.{SpelledField, spelled_fields, well_spelled, spelled_bits}
use Rattle.rows.specs.Fields.{other_year, year_fields, day_fields, clock_fields, long_fraction, fraction_fields, zone_fields}
use Rattle.rows.specs.Ranges.{carried}
use Rattle.types.specs.declared.years.YearRow.{YearRow}

-- The fields of a year, or choice 3 (remainder) for any year.
unfoldable pub loose_year : Bool → YearRow → ℤ → List Field
loose_year other YearRow.Year y = cond other (other_year y) (year_fields YearRow.Year y)
loose_year other YearRow.AnyYear y = year_fields YearRow.AnyYear y

-- The fields of a fraction, or the 1 bit for any fraction.
unfoldable pub loose_fraction : Bool → ℕ → ℕ → List Field
loose_fraction long zero f = []
loose_fraction long (suc n) f = cond long (long_fraction f) (fraction_fields (suc n) f)

unfoldable pub loose_date : Bool → YearRow → Date → List Field
loose_date other row date = loose_year other row (astronomical_of (year_of date)) ++ day_fields date

unfoldable pub loose_time : Bool → Time → List Field
loose_time long time = clock_fields time.clock ++ (loose_fraction long time.digits time.fraction ++ zone_fields time.zone)

unfoldable pub loose_fields : Bool → Bool → YearRow → Value → List Field
loose_fields other long row (Value.Date date) = loose_date other row date
loose_fields other long row (Value.Time time) = loose_time long time
loose_fields other long row (Value.DateTime date time) = loose_date other row date ++ loose_time long time

-- That bits begin with a loose spelling of a value of the form whose parts are in the ranges of their fields; and what is left.
pub record ReadableBits (row : YearRow) (form : Form) (value : Value) (bits rest : BitString) : Type 0 where
  pub other : Bool
  pub long : Bool
  pub spelled : List SpelledField
  pub formed : value_form value ≡ form
  pub in_range : carried value ≡ true
  pub fields : spelled_fields spelled ≡ loose_fields other long row value
  pub well : well_spelled spelled ≡ true
  pub stood : bits ≡ spelled_bits spelled ++ rest
