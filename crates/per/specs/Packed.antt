-- What encodings in a buffer, and decoded values, stand for.
use Rattle.std.specs.Prelude.{ℕ, List, take, Result, Ok, Err}
use Rattle.answers.specs.Outcomes.{Answer, done, refused}
use Rattle.answers.specs.declared.counts.Bits.{Bits}
use Rattle.answers.specs.declared.refusals.Refusal.{Refusal}
use Rattle.answers.specs.Counts.{octets_for}
use Rattle.packing.specs.declared.writing.Packed.{Packed}

-- The octets at the front of a buffer that carry an encoding's bits.
abbrev pub front_of : {size : ℕ} → Packed size → List ℕ
front_of packed = take (octets_for packed.bits).count packed.octets

-- What is answered for what octets give, by its text, with the bits of its encoding; or a refusal.
abbrev pub text_answer : {A : Type 0} → (A → List ℕ) → Result (A × Bits) Refusal → Answer
text_answer text (Ok r) = done (text r.0) r.1
text_answer text (Err why) = refused why
