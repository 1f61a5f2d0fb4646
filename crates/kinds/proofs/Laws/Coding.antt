-- What the demands and the causes of the seven numbers rest on, for any lawful kind.
use Rattle.std.specs.Prelude.{Option, Some, None}
use mathlib.Core.Path.{◌≡◌, refl, sym}
use mathlib.Core.Bool.{Bool, true, false, cond}
use mathlib.Core.List.{List}
use Prim.Native.Nat.{ℕ}
use native.Mathlib.Omega.{arith}
use Rattle.octets.specs.Octets.{eq_list}
use Rattle.octets.proofs.Laws.Octets.{equal, equal_test}
use Rattle.answers.specs.Outcomes.{Answer, done, refused}
use Rattle.answers.specs.declared.counts.Bits.{Bits}
use Rattle.answers.specs.declared.refusals.Refusal.{Refusal}
use Rattle.kinds.specs.Kinds.{Kind}
use Rattle.kinds.specs.Coding.{judged_as, judged_text, encoded, compared, judged_octets, decoded}
use Rattle.kinds.specs.Lawful.{Holds, Lawful, Accepted}

-- A test that lets a result through held.
passed : (b : Bool) (answer : Answer) (why : Refusal) (result : List ℕ) (bits : Bits)
    → cond b answer (refused why) ≡ done result bits → (b ≡ true) × (answer ≡ done result bits)
passed true answer why result bits e = (refl, e)
passed false answer why result bits e = absurd (let z : ◌≡◌ {A = ℕ} 0 1 = cc in omega arith)

module _ {T F R A : Type 0} (K : Kind T F R A) where
  -- What is accepted of a text is the encoding of a value that the type holds.
  pub encoded_only : (t : T) (text result : List ℕ) (bits : Bits) → encoded K t text ≡ done result bits
      → (a : A) × Holds K t a × (K.read_text (K.form t) text ≡ Some a)
      × (◌≡◌ {A = Answer} (done (K.encoding (K.row t) a) (K.count (K.row t) a)) (done result bits))
  unfolding encoded judged_text judged_as
  encoded_only t text result bits e =
      let w = passed (K.well_formed t) _ _ result bits e in
      go (K.read_text (K.form t) text) refl w.0 w.1
    where
      go : (o : Option A) → K.read_text (K.form t) text ≡ o → K.well_formed t ≡ true → judged_text K t o ≡ done result bits
          → (a : A) × Holds K t a × (K.read_text (K.form t) text ≡ Some a)
          × (◌≡◌ {A = Answer} (done (K.encoding (K.row t) a) (K.count (K.row t) a)) (done result bits))
      go None r w e = absurd (let z : ◌≡◌ {A = ℕ} 0 1 = cc in omega arith)
      go (Some a) r w e =
          let p = passed (K.exists a) _ _ result bits e in
          let q = passed (K.in_type t a) _ _ result bits p.1 in
          (a, record { formed = w; real = p.0; inside = q.0 }, r, q.1)

  -- Any text of a value that the type holds is encoded.
  pub encoded_own : (t : T) (text : List ℕ) (a : A) → Holds K t a → K.read_text (K.form t) text ≡ Some a
      → encoded K t text ≡ done (K.encoding (K.row t) a) (K.count (K.row t) a)
  unfolding encoded judged_text judged_as
  encoded_own t text a h e = simp (h.formed, e, h.real, h.inside)

  -- "nothing more": what is accepted of octets is the encoding of the value returned.
  pub decoded_only : (t : T) (octets result : List ℕ) (bits : Bits) → decoded K t octets ≡ done result bits → Accepted K t octets result
  unfolding decoded judged_octets judged_as compared
  decoded_only t octets result bits e =
      let w = passed (K.well_formed t) _ _ result bits e in
      go (K.read_octets (K.row t) (K.form t) octets) w.0 w.1
    where
      go : (o : Option A) → K.well_formed t ≡ true → judged_octets K t octets o ≡ done result bits → Accepted K t octets result
      go None w e = absurd (let z : ◌≡◌ {A = ℕ} 0 1 = cc in omega arith)
      go (Some a) w e =
          let p = passed (K.exists a) _ _ result bits e in
          let q = passed (K.in_type t a) _ _ result bits p.1 in
          let c = passed (eq_list octets (K.encoding (K.row t) a)) _ _ result bits q.1 in
          record {
            value = a;
            held = record { formed = w; real = p.0; inside = q.0 };
            octets_are = equal octets (K.encoding (K.row t) a) c.0;
            text-is = sym (let r = c.1 in let s : K.text_of a ≡ result = cc in s);
          }

  module _ (L : Lawful K) where
    -- The reader's type decides, where form and row are the writer's.
    pub read_back : (w r : T) (a : A) → K.form w ≡ K.form r → K.row w ≡ K.row r → Holds K w a → K.well_formed r ≡ true
        → decoded K r (K.encoding (K.row w) a) ≡ cond (K.in_type r a) (done (K.text_of a) (K.count (K.row w) a)) (refused Refusal.Membership)
    unfolding decoded judged_octets judged_as compared
    read_back w r a f y h g = simp (← y, ← f, g, L.octets_own w a h, h.real, equal_test (K.encoding (K.row w) a) (K.encoding (K.row w) a) refl)

    -- A type's own values are read back.
    pub round_trip : (t : T) (a : A) → Holds K t a → decoded K t (K.encoding (K.row t) a) ≡ done (K.text_of a) (K.count (K.row t) a)
    round_trip t a h = simp h.inside at (read_back t t a refl refl h h.formed)

    -- "two values of one type never share an encoding"
    pub one-encoding : (t : T) (a b : A) → Holds K t a → Holds K t b → K.encoding (K.row t) a ≡ K.encoding (K.row t) b → a ≡ b
    one-encoding t a b h k e =
        let p = L.octets_own t a h in
        let q = L.octets_own t b k in
        cc

-- The answer to a value that was read: 4, 5, 6, or the result.
abbrev pub answered : Bool → Bool → Bool → List ℕ → Bits → Answer
answered exists inside own result bits =
    cond exists (cond inside (cond own (done result bits) (refused Refusal.Encoding)) (refused Refusal.Membership)) (refused Refusal.Existence)

module _ {T F R A : Type 0} (K : Kind T F R A) (t : T) (input : List ℕ) where
  -- A type that no settings give is 1, whatever the input.
  pub ill_formed : K.well_formed t ≡ false → (encoded K t input ≡ refused Refusal.Settings) × (decoded K t input ≡ refused Refusal.Settings)
  unfolding encoded decoded
  ill_formed w = (simp w, simp w)

  -- Under any other, what is not read is 3, and a value is judged by the tests in their order.
  module _ (w : K.well_formed t ≡ true) where
    pub encoded_none : K.read_text (K.form t) input ≡ None → encoded K t input ≡ refused Refusal.Form
    unfolding encoded judged_text
    encoded_none r = simp (w, r)

    pub encoded_some : (a : A) → K.read_text (K.form t) input ≡ Some a
        → encoded K t input ≡ answered (K.exists a) (K.in_type t a) true (K.encoding (K.row t) a) (K.count (K.row t) a)
    unfolding encoded judged_text judged_as
    encoded_some a r = simp (w, r)

    pub decoded_none : K.read_octets (K.row t) (K.form t) input ≡ None → decoded K t input ≡ refused Refusal.Form
    unfolding decoded judged_octets
    decoded_none r = simp (w, r)

    pub decoded-judged : (a : A) → K.read_octets (K.row t) (K.form t) input ≡ Some a → decoded K t input ≡ judged_as K t a (compared K t input a)
    unfolding decoded judged_octets
    decoded-judged a r = simp (w, r)

    pub decoded_some : (a : A) → K.read_octets (K.row t) (K.form t) input ≡ Some a
        → decoded K t input ≡ answered (K.exists a) (K.in_type t a) (eq_list input (K.encoding (K.row t) a)) (K.text_of a) (K.count (K.row t) a)
    unfolding decoded judged_octets judged_as compared
    decoded_some a r = simp (w, r)
