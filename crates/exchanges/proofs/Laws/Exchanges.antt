-- Any lawful kind with its texts meets demands 2 and 3.
use Rattle.std.specs.Prelude.{Some, None}
use mathlib.Core.Path.{◌≡◌, ap, sym, ◌∙◌}
use mathlib.Core.Bool.{Bool, true, false, cond}
use mathlib.Core.List.{List}
use Prim.Native.Nat.{ℕ, ◌≤◌, ◌<◌}
use native.Mathlib.Omega.{arith}
use lib.ListN.{length}
use Rattle.octets.proofs.Laws.Cases.{both}
use Rattle.answers.specs.Outcomes.{Answer, done, refused, refusal, outcome_of, room_of}
use Rattle.answers.specs.Refusals.{number_of}
use Rattle.answers.specs.declared.counts.Bits.{Bits}
use Rattle.answers.specs.declared.outcomes.Outcome.{Outcome}
use Rattle.answers.specs.declared.refusals.Refusal.{Refusal}
use Rattle.answers.proofs.Laws.Outcomes as Outcomes
use Rattle.answers.proofs.Laws.Outcomes.{Told, given, withheld}
use Rattle.kinds.specs.Coding.{encoded, decoded}
use Rattle.kinds.specs.Kinds.{Kind, holds}
use Rattle.kinds.specs.Lawful.{Holds, Lawful, Notation}
use Rattle.kinds.proofs.Laws.Coding as Coding
use Rattle.exchanges.specs.Demands.{ComesBack, a_result, a_refusal, Demand2, Demand3, Refused, Returned, sent}

-- ---- answers, as the demands tell them

module _ (result room : List ℕ) (bits : Bits) where
  fits_in : length result ≤ length room → Returned (done result bits) room result bits.count
  fits_in h =
      let e = (Outcomes.enough result room bits h).0 in
      record {
        number_is = ap (λ (o : Outcome). o.number) e;
        length-is = ap (λ (o : Outcome). o.length.count) e;
        bits_are = ap (λ (o : Outcome). o.bits.count) e;
        front = Outcomes.in-front result room bits h;
        rest = Outcomes.rest_unchanged result room bits h;
      }

  -- After 0, what was sent is the result, and the bit count is its own.
  sent_is : (outcome_of (done result bits) room).number ≡ 0 → (result ≡ sent (done result bits) room) × (bits ≡ (outcome_of (done result bits) room).bits)
  sent_is e =
      let t = Outcomes.result_told (done result bits) room e in (
        let q : result ≡ sent (done result bits) room = cc in q,
        let q : bits ≡ (outcome_of (done result bits) room).bits = cc in q,
      )

refuses : (answer : Answer) (why : Refusal) (room : List ℕ) → outcome_of answer room ≡ refusal why → room_of answer room ≡ room
    → Refused answer room (number_of why)
refuses answer why room o r = record {
  number_is = ap (λ (p : Outcome). p.number) o;
  length-is = ap (λ (p : Outcome). p.length.count) o;
  bits_are = ap (λ (p : Outcome). p.bits.count) o;
  untouched = r;
}

module _ (answer : Answer) (room : List ℕ) where
  fits : (result : List ℕ) (bits : Bits) → answer ≡ done result bits → length result ≤ length room → Returned answer room result bits.count
  fits result bits e h = rw e (fits_in result room bits h)

  short : (result : List ℕ) (bits : Bits) → answer ≡ done result bits → length room < length result → Refused answer room 7
  short result bits e h = rw e (let k = Outcomes.short result room bits h in refuses (done result bits) Refusal.Room room k.0 k.1)

  pub no_answer : (why : Refusal) → answer ≡ refused why → Refused answer room (number_of why)
  no_answer why e = rw e (let k = Outcomes.none why room in refuses (refused why) why room k.0 k.1)

  -- Demand 1 is of every answer.
  pub comes_back : ComesBack answer room
  comes_back = go (Outcomes.told answer room)
    where
      go : Told answer room → ComesBack answer room
      go (given result bits a h o) = a_result result bits.count h (fits result bits a h)
      go (withheld why o r) = let n = Outcomes.number_range why in a_refusal (number_of why) n.0 n.1 (refuses answer why room o r)

  -- After 0 there is a result, and it has its place.
  taken : (outcome_of answer room).number ≡ 0 → (result : List ℕ) × (bits : Bits) × (answer ≡ done result bits) × (length result ≤ length room)
  taken e = go (Outcomes.told answer room)
    where
      go : Told answer room → (result : List ℕ) × (bits : Bits) × (answer ≡ done result bits) × (length result ≤ length room)
      go (given result bits a h o) = (result, bits, a, h)
      go (withheld why o r) = absurd (let n = Outcomes.number_range why in let z : number_of why ≡ 0 = rw o at e in omega arith)

-- ---- the demands

module _ {T F R A : Type 0} (K : Kind T F R A) (L : Lawful K) {S : Type 0} (render : S → A → List ℕ) (N : Notation K S render) where
  held : (t : T) (v : A) → K.well_formed t ≡ true → holds K t v ≡ true → Holds K t v
  held t v f h = let b = both (K.exists v) (K.in_type t v) h in record { formed = f; real = b.0; inside = b.1 }

  held_by : (t : T) (v : A) → Holds K t v → holds K t v ≡ true
  held_by t v h = rw (h.real, h.inside)

  module _ (t : T) (f : K.well_formed t ≡ true) (write read : List ℕ → Answer) (x : (l : List ℕ) → write l ≡ encoded K t l)
      (y : (l : List ℕ) → read l ≡ decoded K t l) where
    pub written : (v : A) → holds K t v ≡ true → (s : S) → write (render s v) ≡ done (K.encoding (K.row t) v) (K.count (K.row t) v)
    written v h s = x (render s v) ∙ Coding.encoded_own K t (render s v) v (held t v f h) (N.text-read t v (held t v f h) s)

    again : (v : A) → Holds K t v → read (K.encoding (K.row t) v) ≡ done (K.text_of v) (K.count (K.row t) v)
    again v h = y (K.encoding (K.row t) v) ∙ Coding.round_trip K L t v h

    texts : (text room : List ℕ) → (outcome_of (write text) room).number ≡ 0 → (v : A) × (holds K t v ≡ true) × (s : S) × (text ≡ render s v)
    texts text room e =
        let o = taken (write text) room e in
        let w = Coding.encoded_only K t text o.0 o.1 (sym (x text) ∙ o.2) in
        let q = N.text_only (K.form t) text w.0 w.2 in
        (w.0, held_by t w.0 w.1, q.0, q.1)

    more : (input room : List ℕ) → (outcome_of (read input) room).number ≡ 0
        → (v : A) × (holds K t v ≡ true) × (input ≡ K.encoding (K.row t) v) × Returned (read input) room (K.text_of v) (K.count (K.row t) v).count
    more input room e =
        let o = taken (read input) room e in
        let a = Coding.decoded_only K t input o.0 o.1 (sym (y input) ∙ o.2) in
        let v = a.value in
        (v, held_by t v a.held, a.octets_are, fits _ room _ _ (ap read a.octets_are ∙ again v a.held) (rw a.text-is at o.3))

    pub meets_2 : Demand2 K render write read t (λ v. K.encoding (K.row t) v) (λ v. (K.count (K.row t) v).count)
    meets_2 = record {
      writes = λ v h s room l. fits _ room _ _ (written v h s) l;
      no_room = λ v h s room l. short _ room _ _ (written v h s) l;
      texts_only = texts;
      reads = λ v h room l. fits _ room _ _ (again v (held t v f h)) l;
      no_room_back = λ v h room l. short _ room _ _ (again v (held t v f h)) l;
      nothing-more = more;
      never_shared = λ a b h k e. Coding.one-encoding K L t a b (held t a f h) (held t b f k) e;
    }

  -- A text that is of the form of a reader's type is of the writer's form.
  alike : (w r : T) (v a : A) → Holds K w v → K.read_text (K.form r) (K.text_of v) ≡ Some a → K.form w ≡ K.form r
  alike w r v a h e = N.one_form w v h (K.form r) a e

  -- Rows alike, and octets give nothing at the form of a reader's type where the text is not of it.
  module _ (w r : T) (fw : K.well_formed w ≡ true) (fr : K.well_formed r ≡ true) (same : K.row w ≡ K.row r) (v : A) (hw : holds K w v ≡ true)
      (other : K.read_text (K.form r) (K.text_of v) ≡ None → K.read_octets (K.row r) (K.form r) (K.encoding (K.row w) v) ≡ None)
      (sender : Answer) (lent : List ℕ) (x : sender ≡ done (K.encoding (K.row w) v) (K.count (K.row w) v)) (ok : (outcome_of sender lent).number ≡ 0)
      (read : List ℕ → Answer) (y : (l : List ℕ) → read l ≡ decoded K r l) where
    as_written : (sent sender lent ≡ K.encoding (K.row w) v) × (K.count (K.row w) v ≡ (outcome_of sender lent).bits)
    as_written = rw x (let q = sent_is (K.encoding (K.row w) v) lent (K.count (K.row w) v) (rw x at ok) in (sym q.0, q.1))

    own : holds K r v ≡ true → K.read_text (K.form r) (K.text_of v) ≡ Some v
    own h = L.text_own r v (held r v fr h)

    -- where the form is the writer's, the reader's type decides
    decides : (a : A) → K.read_text (K.form r) (K.text_of v) ≡ Some a → (b : Bool) → K.in_type r v ≡ b
        → read (sent sender lent) ≡ cond b (done (K.text_of v) (outcome_of sender lent).bits) (refused Refusal.Membership)
    decides a e b i =
        let s = as_written in
        let h = held w v fw hw in
        ap read s.0 ∙ y (K.encoding (K.row w) v) ∙ Coding.read_back K L w r v (alike w r v a h e) same h fr ∙ rw (i, s.1)

    outside : holds K r v ≡ false → K.in_type r v ≡ false
    outside h = let e = (both (K.exists v) (K.in_type w v) hw).0 in rw e at h

    returned : holds K r v ≡ true → read (sent sender lent) ≡ done (K.text_of v) (outcome_of sender lent).bits
    returned h = decides v (own h) true (both (K.exists v) (K.in_type r v) h).1

    not_read : K.read_text (K.form r) (K.text_of v) ≡ None → read (sent sender lent) ≡ refused Refusal.Form
    not_read e = ap read as_written.0 ∙ y (K.encoding (K.row w) v) ∙ Coding.decoded_none K r (K.encoding (K.row w) v) fr (other e)

    pub meets_3 : Demand3 K sender lent read r v
    meets_3 = record {
      returns = λ h room l. fits _ room _ _ (returned h) l;
      no_room = λ h room l. short _ room _ _ (returned h) l;
      refuses_5 = λ h a e room. no_answer _ room Refusal.Membership (decides a e false (outside h));
      refuses_3 = λ e room. no_answer _ room Refusal.Form (not_read e);
    }
