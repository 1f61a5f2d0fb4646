-- "Octets": what an element gives, however it should have been written. Octets after it are left.
use Rattle.std.specs.Prelude.{ℕ, Bool, true, ◌&&◌, cond, List, [], ◌∷◌, ◌++◌, eqb, leb, length, take, drop, Option, None}
use Rattle.octets.specs.Octets.{eq_list}
use Rattle.texts.specs.Octets.{hyphen, colon, letter_t, is_digit}
use Rattle.texts.specs.Texts.{read_of}
use Rattle.texts.specs.declared.forms.Form.{Form}
use Rattle.texts.specs.declared.values.Value.{Value}
use Rattle.durations.specs.Texts.{letter_p, read_duration}
use Rattle.durations.specs.declared.Duration.{Duration}
use Rattle.types.specs.declared.types.Name.{Name}
use Rattle.held_values.specs.Encodings.{of_text}
use Rattle.der_elements.specs.Elements.{tag_of}

-- Whether all octets are digits.
unfoldable pub all_digits : List ℕ → Bool
all_digits [] = true
all_digits (c ∷ l) = is_digit c && all_digits l

-- "the contents are 8, 6 or 14 digits"
unfoldable pub digits_only : ℕ → List ℕ → Bool
digits_only n l = eqb (length l) n && all_digits l

-- Three fields with the octet c between them, from their digits: w for the first, and two for the second.
unfoldable pub separated : ℕ → ℕ → List ℕ → List ℕ
separated c w l = take w l ++ c ∷ (take 2 (drop w l) ++ c ∷ drop 2 (drop w l))

-- The text of a date from its digits.
abbrev pub dated : List ℕ → List ℕ
dated = separated hyphen 4

-- The text of a time from its digits.
abbrev pub timed : List ℕ → List ℕ
timed = separated colon 2

-- "Under these three tags the contents are 8, 6 or 14 digits; any other octet or count is refusal 3"; under 0E they are the text; under 1F 22
-- they are no point's.
abbrev pub read_contents : Name → Form → List ℕ → Option Value
read_contents Name.Listed form l = of_text (read_of form l)
read_contents Name.Date form l = cond (digits_only 8 l) (of_text (read_of form (dated l))) None
read_contents Name.TimeOfDay form l = cond (digits_only 6 l) (of_text (read_of form (timed l))) None
read_contents Name.DateTime form l = cond (digits_only 14 l) (of_text (read_of form (dated (take 8 l) ++ letter_t ∷ timed (drop 8 l)))) None
read_contents Name.Duration form l = None

-- The contents of a duration: under 0E they are the text, and under 1F 22 the text without its `P` (#101).
abbrev pub read_duration_contents : Name → List ℕ → Option Duration
read_duration_contents Name.Listed l = read_duration l
read_duration_contents Name.Date l = None
read_duration_contents Name.TimeOfDay l = None
read_duration_contents Name.DateTime l = None
read_duration_contents Name.Duration l = read_duration (letter_p ∷ l)

-- 3: "the DER length above 127, missing, or above the octets that follow"; else what the contents give.
abbrev pub within_length : {A : Type 0} → (List ℕ → Option A) → List ℕ → Option A
within_length contents [] = None
within_length contents (n ∷ l) = cond (leb n 127 && leb n (length l)) (contents (take n l)) None

-- 3: "tag wrong"; else what follows it gives.
abbrev pub under_tag : {A : Type 0} → Name → (List ℕ → Option A) → List ℕ → Option A
under_tag name contents octets =
    cond (eq_list (take (length (tag_of name)) octets) (tag_of name)) (within_length contents (drop (length (tag_of name)) octets)) None

-- What the length and the contents of a point give.
abbrev pub read_length : Name → Form → List ℕ → Option Value
read_length name form octets = within_length (read_contents name form) octets

-- What an element gives as a point.
unfoldable pub read_element : Name → Form → List ℕ → Option Value
read_element name form octets = under_tag name (read_contents name form) octets

-- What an element gives as a duration.
unfoldable pub read_duration_element : Name → List ℕ → Option Duration
read_duration_element name octets = under_tag name (read_duration_contents name) octets
