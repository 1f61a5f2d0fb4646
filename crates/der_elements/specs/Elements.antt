-- "Octets": what is written.
use Rattle.std.specs.Prelude.{ℕ, Bool, false, ◌||◌, cond, List, [], ◌∷◌, ◌++◌, eqb, length}
use Rattle.texts.specs.Octets.{hyphen, colon, letter_t}
use Rattle.texts.specs.Texts.{text_of}
use Rattle.durations.specs.Texts.{letter_p}
use Rattle.texts.specs.declared.values.Value.{Value}
use Rattle.types.specs.declared.types.Name.{Name}

-- "Any settings list: tag 0E, .. DATE: 1F 1F, .. TIME-OF-DAY: 1F 20, .. DATE-TIME: 1F 21"; "the name DURATION, DER tag 1F 22" (#101): these four
-- are the useful time types (X.680 34 bis.4).
abbrev pub tag_of : Name → List ℕ
tag_of Name.Listed = 14 ∷ []
tag_of Name.Date = 31 ∷ 31 ∷ []
tag_of Name.TimeOfDay = 31 ∷ 32 ∷ []
tag_of Name.DateTime = 31 ∷ 33 ∷ []
tag_of Name.Duration = 31 ∷ 34 ∷ []

-- The octets of the canonical text that the contents are without: `-`, `:`, or `-`, `:` and `T`; none under 0E; "contents without `P`" (#101).
abbrev pub omits : Name → ℕ → Bool
omits Name.Listed c = false
omits Name.Date c = eqb c hyphen
omits Name.TimeOfDay c = eqb c colon
omits Name.DateTime c = eqb c hyphen || eqb c colon || eqb c letter_t
omits Name.Duration c = eqb c letter_p

-- A text without the octets that pass a test.
unfoldable pub without : (ℕ → Bool) → List ℕ → List ℕ
without p [] = []
without p (c ∷ l) = cond (p c) (without p l) (c ∷ without p l)

-- The contents of a canonical text.
unfoldable pub contents_of : Name → List ℕ → List ℕ
contents_of name text = without (omits name) text

-- "Tag, one octet of length (0 to 127), contents." Law length-most: there are never more.
unfoldable pub element : Name → List ℕ → List ℕ
element name contents = tag_of name ++ length contents ∷ contents

-- The element of a value.
unfoldable pub element_of : Name → Value → List ℕ
element_of name v = element name (contents_of name (text_of v))
