-- Under a point's type everything is as the kind of points has it.
use Rattle.std.specs.Prelude.{Option, Some, None}
use mathlib.Core.Path.{◌≡◌, refl}
use mathlib.Core.List.{List}
use Prim.Native.Nat.{ℕ}
use Rattle.texts.specs.Texts.{read_of}
use Rattle.texts.specs.declared.forms.Form.{Form}
use Rattle.texts.specs.declared.values.Value.{Value}
use Rattle.types.specs.Types.{form_of}
use Rattle.types.specs.declared.types.AnyType.{AnyType}
use Rattle.types.specs.declared.types.«Type».{«Type» as Ty}
use Rattle.kinds.specs.Coding.{compared, decoded, encoded, judged_as, judged_octets, judged_text}
use Rattle.held_values.specs.Encodings as Points
use Rattle.held_values.specs.Encodings.{of_text}
use Rattle.kinds.specs.Kinds.{Encoding}
use Rattle.any_values.specs.Encodings.{encoded_by}
use Rattle.any_values.specs.Texts.{as_point}
use Rattle.any_values.specs.declared.AnyForm.{AnyForm}
use Rattle.any_values.specs.declared.AnyValue.{AnyValue}

-- That an encoding of points and durations has points as an encoding of points has them.
pub record Extends {R : Type 0} (E : Encoding AnyType AnyForm R AnyValue) (B : Encoding Ty Form R Value) : Type 0 where
  pub row_is : (t : Ty) → E.row (AnyType.Point t) ≡ B.row t
  pub encoding-is : (row : R) (v : Value) → E.encoding row (AnyValue.Point v) ≡ B.encoding row v
  pub count-is : (row : R) (v : Value) → E.count row (AnyValue.Point v) ≡ B.count row v
  pub octets_are : (row : R) (f : Form) (octets : List ℕ) → E.read_octets row (AnyForm.Point f) octets ≡ as_point (B.read_octets row f octets)

module _ {R : Type 0} (E : Encoding AnyType AnyForm R AnyValue) (B : Encoding Ty Form R Value) (X : Extends E B) (t : Ty) where
  -- Under a point's type the encoder answers as that of points.
  pub point-encoded : (text : List ℕ) → encoded (encoded_by E) (AnyType.Point t) text ≡ encoded (Points.encoded_by B) t text
  unfolding encoded
  point-encoded text = rw (go (of_text (read_of (form_of t) text)))
    where
      go : (o : Option Value) → judged_text (encoded_by E) (AnyType.Point t) (as_point o) ≡ judged_text (Points.encoded_by B) t o
      go None = unfold judged_text in refl
      go (Some v) = unfold judged_text judged_as in rw (X.row_is t, X.encoding-is (B.row t) v, X.count-is (B.row t) v)

  -- Under a point's type the decoder answers as that of points.
  pub point-decoded : (octets : List ℕ) → decoded (encoded_by E) (AnyType.Point t) octets ≡ decoded (Points.encoded_by B) t octets
  unfolding decoded
  point-decoded octets = rw (X.row_is t, X.octets_are (B.row t) (form_of t) octets, go (B.read_octets (B.row t) (form_of t) octets))
    where
      go : (o : Option Value) → judged_octets (encoded_by E) (AnyType.Point t) octets (as_point o) ≡ judged_octets (Points.encoded_by B) t octets o
      go None = unfold judged_octets in refl
      go (Some v) = unfold judged_octets judged_as compared in rw (X.row_is t, X.encoding-is (B.row t) v, X.count-is (B.row t) v)
