-- The canonical text at the front of a lent buffer.
use Rattle.std.specs.Prelude.{ℕ, Bool, ◌&&◌, cond, List, ◌++◌, leb, length, drop}
use Rattle.texts.specs.declared.values.Value.{Value}
use Rattle.texts.specs.Forms.{value_form, form_digits}
use Rattle.texts.specs.Texts.{text_of}

-- How many octets a buffer for texts has: the longest canonical text, and slack.
abbrev pub text_capacity : ℕ
text_capacity = 136

-- Whether a value is printed. "n from 1 to 9": no value has more fraction digits.
unfoldable pub printable : Value → List ℕ → Bool
printable v b = leb (form_digits (value_form v)) 9 && leb text_capacity (length b)

-- The length of the text that is printed, 0 where none is.
unfoldable pub length_in : Value → List ℕ → ℕ
length_in v b = cond (printable v b) (length (text_of v)) 0

-- The buffer with the text at its front and the rest kept, or untouched where none is printed.
unfoldable pub buffer_with : Value → List ℕ → List ℕ
buffer_with v b = cond (printable v b) (text_of v ++ drop (length (text_of v)) b) b
