-- What the code's answers say of a duration's bits, as answers of readings.
use Rattle.std.specs.Prelude.{ℕ, zero, suc, ◌/◌, ◌%◌, ◌^◌, ◌≤◌, ◌≡◌, Bool, List, [], ◌∷◌, map, ltb, get_or, length, Option, Some, None, IfSome}
use Rattle.answers.specs.declared.counts.Bits.{Bits}
use Rattle.octets.specs.Found.{Found, found, nothing}
use Rattle.fields.specs.Readings.{Reading, give, ◌>>=◌, require, run}
use Rattle.durations.specs.declared.Duration.{Duration}
use Rattle.durations.specs.Parts.{Part, absent, present, no_fraction, numbers}
use Rattle.durations.specs.Fields.{roots}
use Rattle.durations.specs.Readings.{read_extended, read_numbers, Tail, tail}
use Rattle.unpacking.specs.Steps.{rest}

-- The seven presence bits of an octet.
abbrev pub bits_in : ℕ → List ℕ
bits_in o = (o / 128 % 2) ∷ (o / 64 % 2) ∷ (o / 32 % 2) ∷ (o / 16 % 2) ∷ (o / 8 % 2) ∷ (o / 4 % 2) ∷ (o / 2 % 2) ∷ []

-- The number of one component by its presence bit, 0 where it is not present.
abbrev pub read_place : ℕ → ℕ → Reading ℕ
read_place r zero = give 0
read_place r (suc b) = read_extended 0 r >>= λ n. require (ltb n (10 ^ 9)) (give n)

-- A component by its presence bit and its number.
abbrev pub part_of : ℕ → ℕ → Part
part_of zero n = absent
part_of (suc b) n = present n 0 no_fraction

unfoldable pub parts_from : List ℕ → List ℕ → List Part
parts_from [] ns = []
parts_from (b ∷ bs) [] = []
parts_from (b ∷ bs) (n ∷ ns) = part_of b n ∷ parts_from bs ns

-- Components of which only their presence is known.
abbrev pub bare_parts : List ℕ → List Part
bare_parts bs = map (λ b. part_of b 0) bs

-- What a reading gives after the octet of presence bits.
abbrev pub after_presences : {A : Type 0} → List ℕ → Reading A → Found Bool A
after_presences s t = run t (rest s (record { count = 8 }))

-- The numbers that were read after the presence bits of an octet, and the place after them; or nothing.
abbrev pub seen_numbers : List ℕ → List ℕ → Option (List ℕ × Bits) → Found Bool (List Part)
seen_numbers s bs (Some r) = found (parts_from bs r.0) (rest s r.1)
seen_numbers s bs None = nothing

pub record NumbersAfter (s : List ℕ) (o : ℕ) (r : Option (List ℕ × Bits)) : Type 0 where
  pub is : seen_numbers s (bits_in o) r ≡ after_presences s (read_numbers roots (bits_in o))
  pub values : IfSome r (λ n. numbers (parts_from (bits_in o) n.0) ≡ n.0)
  pub count : IfSome r (λ n. length n.0 ≡ 7)
  pub near : IfSome r (λ n. n.1.count ≤ 295)

-- The digits of a fraction and the number that they give; or nothing.
abbrev pub seen_tail : Option (ℕ × ℕ) → Option Tail
seen_tail (Some t) = Some (tail t.0 t.1)
seen_tail None = None

-- The duration of numbers.
abbrev pub duration_from : List ℕ → ℕ → ℕ → ℕ → Duration
duration_from ns last d f = record {
  last = last;
  years = get_or ns 0 0;
  months = get_or ns 1 0;
  weeks = get_or ns 2 0;
  days = get_or ns 3 0;
  hours = get_or ns 4 0;
  minutes = get_or ns 5 0;
  seconds = get_or ns 6 0;
  digits = d;
  fraction = f;
}
