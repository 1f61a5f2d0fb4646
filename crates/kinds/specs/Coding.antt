-- The encoder and the decoder of a kind: "Each is given exactly then. When several hold, the lowest number is given."
use Rattle.std.specs.Prelude.{ℕ, cond, List, Option, Some, None}
use Rattle.octets.specs.Octets.{eq_list}
use Rattle.answers.specs.Outcomes.{Answer, done, refused}
use Rattle.answers.specs.declared.refusals.Refusal.{Refusal}
use Rattle.kinds.specs.Kinds.{Kind}

module _ {T F R A : Type 0} (K : Kind T F R A) where
  -- 4: "no such date, time or difference"; 5: "exists, but not in the type"; else the answer.
  unfoldable pub judged_as : T → A → Answer → Answer
  judged_as t a answer = cond (K.exists a) (cond (K.in_type t a) answer (refused Refusal.Membership)) (refused Refusal.Existence)

  -- A text: 3 where it is "not of the type's form".
  unfoldable pub judged_text : T → Option A → Answer
  judged_text t None = refused Refusal.Form
  judged_text t (Some a) = judged_as t a (done (K.encoding (K.row t) a) (K.count (K.row t) a))

  -- The octets of a text's value; 1 for a type that no settings give.
  unfoldable pub encoded : T → List ℕ → Answer
  encoded t text = cond (K.well_formed t) (judged_text t (K.read_text (K.form t) text)) (refused Refusal.Settings)

  -- 6: "decoding only: not what the encoder writes".
  unfoldable pub compared : T → List ℕ → A → Answer
  compared t octets a =
      cond (eq_list octets (K.encoding (K.row t) a)) (done (K.text_of a) (K.count (K.row t) a)) (refused Refusal.Encoding)

  -- Octets: 3 where nothing can be read.
  unfoldable pub judged_octets : T → List ℕ → Option A → Answer
  judged_octets t octets None = refused Refusal.Form
  judged_octets t octets (Some a) = judged_as t a (compared t octets a)

  -- The canonical text of the octets' value.
  unfoldable pub decoded : T → List ℕ → Answer
  decoded t octets =
      cond (K.well_formed t) (judged_octets t octets (K.read_octets (K.row t) (K.form t) octets)) (refused Refusal.Settings)
