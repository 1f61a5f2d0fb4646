-- The canonical text of a value as an answer.
use Rattle.std.specs.Prelude.{ℕ, cond, List, [], leb}
use Rattle.answers.specs.declared.counts.Bits.{Bits}
use Rattle.answers.specs.declared.refusals.Refusal.{Refusal}
use Rattle.answers.specs.Outcomes.{Answer, done, refused}
use Rattle.texts.specs.declared.values.Value.{Value}
use Rattle.texts.specs.Forms.{form_digits, value_form}
use Rattle.texts.specs.Texts.{text_of}
use Rattle.held_values.specs.Existence.{exists_value}

-- The canonical text, where there are at most nine fraction digits, as in every value that exists; else none.
unfoldable pub printed : Value → List ℕ
printed v = cond (leb (form_digits (value_form v)) 9) (text_of v) []

-- The canonical text as an answer, with the bits of the encoding that the value was read from; or 4: "no such date, time or difference".
unfoldable pub written : Bits → Value → Answer
written bits v = cond (exists_value v) (done (text_of v) bits) (refused Refusal.Existence)
