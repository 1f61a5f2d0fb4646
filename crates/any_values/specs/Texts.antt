-- The texts of points and of durations.
use Rattle.std.specs.Prelude.{ℕ, List, Option, Some, None}
use Rattle.texts.specs.Texts as Points
use Rattle.texts.specs.Texts.{read_of}
use Rattle.texts.specs.Times as Times
use Rattle.texts.specs.declared.values.Spelling.{Spelling}
use Rattle.texts.specs.declared.values.Value.{Value}
use Rattle.types.specs.Types as Types
use Rattle.types.specs.declared.types.AnyType.{AnyType}
use Rattle.durations.specs.Texts as Durations
use Rattle.durations.specs.Texts.{DurationSpelling, read_duration, render_duration}
use Rattle.durations.specs.declared.Duration.{Duration}
use Rattle.held_values.specs.Encodings.{of_text}
use Rattle.any_values.specs.declared.AnyForm.{AnyForm}
use Rattle.any_values.specs.declared.AnyValue.{AnyValue}

-- "The form is what a text shows of the settings": a duration's settings show no more than that it is one.
abbrev pub form_of : AnyType → AnyForm
form_of (AnyType.Point t) = AnyForm.Point (Types.form_of t)
form_of AnyType.Duration = AnyForm.Duration
form_of AnyType.ListedDuration = AnyForm.Duration

-- How a text is spelled: as a point's, or as a duration's.
pub record AnySpelling : Type 0 where
  pub point : Spelling
  pub duration : DurationSpelling

-- Canonical spelling, of either.
abbrev pub canonical : AnySpelling
canonical = record { point = Times.canonical; duration = Durations.canonical }

-- The text of a value in a spelling.
abbrev pub render : AnySpelling → AnyValue → List ℕ
render s (AnyValue.Point v) = Points.render s.point v
render s (AnyValue.Duration d) = render_duration s.duration d

-- The canonical text.
abbrev pub text_of : AnyValue → List ℕ
text_of v = render canonical v

-- What is given, as a point.
abbrev pub as_point : Option Value → Option AnyValue
as_point (Some v) = Some (AnyValue.Point v)
as_point None = None

-- What is given, as a duration.
abbrev pub as_duration : Option Duration → Option AnyValue
as_duration (Some d) = Some (AnyValue.Duration d)
as_duration None = None

-- What a text gives at a form, however it is spelled.
abbrev pub read_text : AnyForm → List ℕ → Option AnyValue
read_text (AnyForm.Point f) l = as_point (of_text (read_of f l))
read_text AnyForm.Duration l = as_duration (read_duration l)
