-- Which value a text gives under a type: "The seven numbers" 1 and 3 to 5, "the lowest number" first.
use Rattle.std.specs.Prelude.{cond, List, ℕ, Option, Some, None, Result, Ok, Err}
use Rattle.texts.specs.declared.values.Spelling.{Spelling}
use Rattle.answers.specs.declared.refusals.Refusal.{Refusal}
use Rattle.answers.specs.Refusals.{number_of}
use Rattle.texts.specs.declared.values.Value.{Value}
use Rattle.texts.specs.Texts.{read_of}
use Rattle.types.specs.declared.types.«Type».{«Type» as Ty}
use Rattle.types.specs.Types.{well_formed, form_of}
use Rattle.held_values.specs.Existence.{exists_value}
use Rattle.held_values.specs.Holding.{in_type}

-- The number of what a text gives at a form: 0 for a value, and 3 where it is not of the form.
abbrev pub text_number : Option (Value × Spelling) → ℕ
text_number (Some (v, s)) = 0
text_number None = number_of Refusal.Form

-- The number of what is judged: 0 where the type holds the value.
abbrev pub judgement_number : Result (Unit {0}) Refusal → ℕ
judgement_number (Ok tt) = 0
judgement_number (Err why) = number_of why

-- The number of each answer: 0 for a value.
abbrev pub admission_number : Result Value Refusal → ℕ
admission_number (Ok v) = 0
admission_number (Err why) = number_of why

-- 4: "no such date, time or difference"; 5: "exists, but not in the type"; else the type holds it.
unfoldable pub judged : Ty → Value → Result (Unit {0}) Refusal
judged t v =
    cond (exists_value v) (cond (in_type t v) (Ok tt) (Err Refusal.Membership)) (Err Refusal.Existence)

-- A value that the type holds is given.
abbrev pub given_as : Value → Result (Unit {0}) Refusal → Result Value Refusal
given_as v (Ok tt) = Ok v
given_as v (Err why) = Err why

-- 3: "the text .. not of the type's form".
abbrev pub judged_read : Ty → Option (Value × Spelling) → Result Value Refusal
judged_read t (Some (v, s)) = given_as v (judged t v)
judged_read t None = Err Refusal.Form

-- A description that no settings and no name of a useful time type give is 1.
unfoldable pub admitted : Ty → List ℕ → Result Value Refusal
admitted t l = cond (well_formed t) (judged_read t (read_of (form_of t) l)) (Err Refusal.Settings)
