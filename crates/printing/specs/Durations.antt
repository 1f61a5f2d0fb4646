-- The canonical text of a duration at the front of a lent buffer.
use Rattle.std.specs.Prelude.{ℕ, ◌-◌, Bool, false, ◌&&◌, not, cond, List, [], ◌∷◌, ◌++◌, eqb, leb, ltb, length, take, drop}
use Rattle.texts.specs.Octets.{letter_t, letter_w}
use Rattle.durations.specs.declared.Duration.{Duration}
use Rattle.durations.specs.Parts.{Part, absent, present, no_fraction}
use Rattle.durations.specs.Texts.{put_part, duration_text}
use Rattle.printing.specs.Canonical.{text_capacity}

-- Whether a duration is printed: its last component is one of the seven, and "at most nine" fraction digits stand there.
unfoldable pub printable_duration : Duration → List ℕ → Bool
printable_duration d b = leb d.last 6 && leb d.digits 9 && leb text_capacity (length b)

-- The length of the text that is printed, 0 where none is.
unfoldable pub duration_length : Duration → List ℕ → ℕ
duration_length d b = cond (printable_duration d b) (length (duration_text d)) 0

-- The buffer with the text at its front and the rest kept, or untouched where none is printed.
unfoldable pub buffer_with_duration : Duration → List ℕ → List ℕ
buffer_with_duration d b = cond (printable_duration d b) (duration_text d ++ drop (length (duration_text d)) b) b

-- ---- the parts of the text

-- The designators of all seven components.
abbrev pub designators : List ℕ
designators = 89 ∷ 77 ∷ letter_w ∷ 68 ∷ 72 ∷ 77 ∷ 83 ∷ []

-- What a list has from a place on, up to another.
abbrev pub between : ℕ → ℕ → List ℕ → List ℕ
between first end l = take (end - first) (drop first l)

-- A component before the last one, which is not there where its number is 0.
abbrev pub earlier_part : ℕ → Part
earlier_part n = cond (eqb n 0 && not false) absent (present n 0 no_fraction)

-- Some of them.
unfoldable pub put_earlier : List ℕ → List ℕ → List ℕ
put_earlier [] ns = []
put_earlier (c ∷ cs) [] = []
put_earlier (c ∷ cs) (n ∷ ns) = put_part c (earlier_part n) ++ put_earlier cs ns

-- All before the last one, at the place k, with `T` where that is a time.
unfoldable pub put_all_earlier : ℕ → List ℕ → List ℕ
put_all_earlier k ns =
    cond (ltb k 4) (put_earlier (between 0 k designators) (between 0 k ns))
    (put_earlier (between 0 4 designators) (between 0 4 ns) ++ letter_t ∷ put_earlier (between 4 k designators) (between 4 k ns))
