-- A kind of value with an encoding: what "The seven numbers" ask of it.
use Rattle.std.specs.Prelude.{ℕ, Bool, ◌&&◌, List, Option}
use Rattle.answers.specs.declared.counts.Bits.{Bits}

-- An encoding of values: what of a type it goes by, the octets of a value with their bit count, and what octets give at a form.
pub record Encoding (T F R A : Type 0) : Type 0 where
  pub row : T → R
  pub encoding : R → A → List ℕ
  pub count : R → A → Bits
  pub read_octets : R → F → List ℕ → Option A

-- Types T have forms F and rows R; a type's values are among A, its texts are of its form, and they are encoded by its row.
pub record Kind (T F R A : Type 0) : Type 0 where
  -- a type that settings or a name can give
  pub well_formed : T → Bool
  pub form : T → F
  pub row : T → R
  -- "What exists", and what is in a type
  pub exists : A → Bool
  pub in_type : T → A → Bool
  -- the canonical text, and what a text gives at a form
  pub text_of : A → List ℕ
  pub read_text : F → List ℕ → Option A
  -- the octets with their bit count, and what octets give at a form, however they should have been written
  pub encoding : R → A → List ℕ
  pub count : R → A → Bits
  pub read_octets : R → F → List ℕ → Option A

-- "A type holds a value, one that exists by the rules below, when .."
abbrev pub holds : {T F R A : Type 0} → Kind T F R A → T → A → Bool
holds K t a = K.exists a && K.in_type t a
