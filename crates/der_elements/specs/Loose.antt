-- What is read leniently: the contents in any spelling of the text, and any octets after them.
use Rattle.std.specs.Prelude.{ℕ, ◌≤◌, ◌≡◌, true, List, ◌∷◌, ◌++◌, length, take, drop, Some}
use Rattle.texts.specs.Octets.{letter_t}
use Rattle.texts.specs.Texts.{read_of, render}
use Rattle.texts.specs.declared.forms.Form.{Form}
use Rattle.texts.specs.declared.values.Spelling.{Spelling}
use Rattle.texts.specs.declared.values.Value.{Value}
use Rattle.types.specs.declared.types.Name.{Name}
use Rattle.durations.specs.Durations.{exists_duration}
use Rattle.durations.specs.Texts.{DurationSpelling, letter_p, render_duration}
use Rattle.durations.specs.declared.Duration.{Duration}
use Rattle.der_elements.specs.Elements.{element}
use Rattle.der_elements.specs.Readings.{dated, digits_only, timed}

-- That contents stand for a point's text: under 0E they are it; "Under these three tags the contents are 8, 6 or 14 digits", and the text has its
-- separators between them.
abbrev pub StandsFor : Name → List ℕ → List ℕ → Type 0
StandsFor Name.Listed contents text = text ≡ contents
StandsFor Name.Date contents text = (digits_only 8 contents ≡ true) × (text ≡ dated contents)
StandsFor Name.TimeOfDay contents text = (digits_only 6 contents ≡ true) × (text ≡ timed contents)
StandsFor Name.Duration contents text = ⊥
StandsFor Name.DateTime contents text = (digits_only 14 contents ≡ true) × (text ≡ dated (take 8 contents) ++ letter_t ∷ timed (drop 8 contents))

-- That octets begin with an element whose contents stand for a text of the value, in some spelling, at the form; and what is left.
pub record ReadableElement (name : Name) (form : Form) (value : Value) (octets rest : List ℕ) : Type 0 where
  pub contents : List ℕ
  pub spelling : Spelling
  pub short : length contents ≤ 127
  pub text : StandsFor name contents (render spelling value)
  pub formed : read_of form (render spelling value) ≡ Some (value, spelling)
  pub stood : octets ≡ element name contents ++ rest

-- That contents stand for a duration's text: under 0E they are it, and under 1F 22 it is they after `P` (#101).
abbrev pub StandsForDuration : Name → List ℕ → List ℕ → Type 0
StandsForDuration Name.Listed contents text = text ≡ contents
StandsForDuration Name.Date contents text = ⊥
StandsForDuration Name.TimeOfDay contents text = ⊥
StandsForDuration Name.DateTime contents text = ⊥
StandsForDuration Name.Duration contents text = text ≡ letter_p ∷ contents

-- That octets begin with an element whose contents stand for a text of the duration, in some spelling; and what is left.
pub record ReadableDuration (name : Name) (duration : Duration) (octets rest : List ℕ) : Type 0 where
  pub contents : List ℕ
  pub spelling : DurationSpelling
  pub short : length contents ≤ 127
  pub text : StandsForDuration name contents (render_duration spelling duration)
  pub exists : exists_duration duration ≡ true
  pub stood : octets ≡ element name contents ++ rest
