-- "Two types select the same rows when .."
use Rattle.std.specs.Prelude.{Bool, not, eqb}
use Rattle.types.specs.Types.{parts_of}
use Rattle.types.specs.Years.{years_row}
use Rattle.types.specs.declared.types.DateType.{DateType}
use Rattle.types.specs.declared.types.TimeType.{TimeType}
use Rattle.types.specs.declared.types.Parts.{Parts}
use Rattle.types.specs.declared.types.AnyType.{AnyType}
use Rattle.types.specs.declared.rows.DateRow.{DateRow}
use Rattle.types.specs.declared.rows.TimeRow.{TimeRow}
use Rattle.types.specs.declared.rows.Row.{Row}
use Rattle.types.specs.contracts.rows.RowPartialEq.TheImpl as equality

-- "the same Date setting", and of Years their row: "either every Year of both is Basic or Proleptic, or none is".
abbrev pub date_row : DateType → DateRow
date_row d = record { form = d.form; years = years_row d.years }

-- "the same Time setting, n aside; and the same Local-or-UTC"
abbrev pub time_row : TimeType → TimeRow
time_row t = record { clock = t.form.clock; fraction = not (eqb t.form.digits 0); zone = t.form.zone }

-- What decides the rows. "A name counts as its settings, and restrictions don't count": neither is here.
abbrev pub row_of : Parts → Row
row_of (Parts.Date d) = Row.Date (date_row d)
row_of (Parts.Time t) = Row.Time (time_row t)
row_of (Parts.DateTime d t) = Row.DateTime (date_row d) (time_row t)

-- What decides the rows of a type: its name counts as its settings.
abbrev pub row_of_type : AnyType → Row
row_of_type (AnyType.Point t) = row_of (parts_of t)
row_of_type AnyType.Duration = Row.Duration
row_of_type AnyType.ListedDuration = Row.Duration

-- "the same Basic; the same Date setting, where ..; the same Time setting, n aside; and the same Local-or-UTC": one case, with the same parts,
-- which is what `==` says of two. "What both lack counts as the same": no case has what its types lack.
abbrev pub same_row : Row → Row → Bool
same_row = (equality.ghosts).eq

-- Whether two types select the same rows.
unfoldable pub same_rows : AnyType → AnyType → Bool
same_rows a b = same_row (row_of_type a) (row_of_type b)
