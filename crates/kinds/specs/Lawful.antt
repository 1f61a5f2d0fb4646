-- What must be known of a kind, and what its decoder accepts.
use Rattle.std.specs.Prelude.{◌≡◌, ℕ, true, List, Some}
use Rattle.kinds.specs.Kinds.{Kind}

module _ {T F R A : Type 0} (K : Kind T F R A) where
  -- A type that settings can give, and a value that it holds.
  pub record Holds (t : T) (a : A) : Type 0 where
    pub formed : K.well_formed t ≡ true
    pub real : K.exists a ≡ true
    pub inside : K.in_type t a ≡ true

  -- The texts and the octets of a kind are read back.
  pub record Lawful : Type 0 where
    pub text_own : (t : T) (a : A) → Holds t a → K.read_text (K.form t) (K.text_of a) ≡ Some a
    pub octets_own : (t : T) (a : A) → Holds t a → K.read_octets (K.row t) (K.form t) (K.encoding (K.row t) a) ≡ Some a

  -- The texts of a kind, in spellings S: each text of a value is read as it, nothing else is read, and no canonical text is of two forms.
  pub record Notation (S : Type 0) (render : S → A → List ℕ) : Type 0 where
    pub text-read : (t : T) (a : A) → Holds t a → (s : S) → K.read_text (K.form t) (render s a) ≡ Some a
    pub text_only : (f : F) (l : List ℕ) (a : A) → K.read_text f l ≡ Some a → (s : S) × (l ≡ render s a)
    pub one_form : (t : T) (a : A) → Holds t a → (f : F) (b : A) → K.read_text f (K.text_of a) ≡ Some b → K.form t ≡ f

  -- "The decoder takes what the encoder writes and nothing more": octets that are accepted, with the text that is returned.
  pub record Accepted (t : T) (octets text : List ℕ) : Type 0 where
    pub value : A
    pub held : Holds t value
    pub octets_are : octets ≡ K.encoding (K.row t) value
    pub text-is : text ≡ K.text_of value
