-- "Each is given exactly then. When several hold, the lowest number is given.": of every kind of value, in both directions.
use Rattle.std.specs.Prelude.{Option, Some, None}
use mathlib.Core.Path.{◌≡◌, refl, ap, sym, ◌∙◌}
use mathlib.Core.Bool.{Bool, true, false, cond, false≢true}
use mathlib.Core.List.{List}
use Prim.Native.Nat.{ℕ, zero as naught, suc, ◌≤◌, ◌<◌}
use native.Mathlib.Omega.{arith}
use lib.Dec.{leb}
use lib.ListN.{length}
use borrow.Author.Tests.{le-leb, lt-leb, leb-true, leb-false}
use Rattle.octets.specs.Octets.{eq_list}
use Rattle.octets.proofs.Laws.Cases.{both}
use Rattle.octets.proofs.Laws.Octets.{equal, equal_test}
use Rattle.answers.specs.Outcomes.{Answer, done, refused, fits, outcome_of}
use Rattle.answers.specs.Refusals.{number_of}
use Rattle.answers.specs.declared.counts.Bits.{Bits}
use Rattle.answers.specs.declared.refusals.Refusal.{Refusal}
use Rattle.types.specs.declared.types.AnyType.{AnyType}
use Rattle.types.specs.declared.types.Limits.{Limits}
use Rattle.types.specs.declared.types.TypeRead.{TypeRead}
use Rattle.type_texts.specs.TypeTexts.{type_of}
use Rattle.kinds.specs.Coding.{encoded, decoded}
use Rattle.kinds.specs.Kinds.{Kind, holds}
use Rattle.kinds.proofs.Laws.Coding as Coding
use Rattle.kinds.proofs.Laws.Coding.{answered}
use Rattle.exchanges.specs.Coding.{under_type}
use Rattle.exchanges.specs.Demands.{Cause, one, two, three, four, five, six, seven, zero, Direction, encodes, decodes, Given, Gives, read_as, result_as}

-- ---- the tests in their order

-- The number of an answer, by the tests.
abbrev numbered : Bool → Bool → Bool → Bool → ℕ
numbered exists inside own enough = cond exists (cond inside (cond own (cond enough 0 7) 6) 5) 4

number-of : (exists inside own : Bool) (result room : List ℕ) (bits : Bits)
    → (outcome_of (answered exists inside own result bits) room).number ≡ numbered exists inside own (leb (length result) (length room))
unfolding outcome_of fits
number-of false inside own result room bits = refl
number-of true false own result room bits = refl
number-of true true false result room bits = refl
number-of true true true result room bits = go (leb (length result) (length room)) refl where
  go : (b : Bool) → leb (length result) (length room) ≡ b → (outcome_of (done result bits) room).number ≡ cond b 0 7
  go true h = rw h
  go false h = rw h

-- No cause that holds is below the number of the tests, and where one holds the number is not 0.
record Bound (n m : ℕ) : Type 0 where
  some_cause : 1 ≤ n
  no_lower : n ≤ m

at_five : (exists own enough : Bool) → Bound (numbered exists false own enough) 5
at_five true own enough = record { some_cause = omega arith; no_lower = omega arith }
at_five false own enough = record { some_cause = omega arith; no_lower = omega arith }

at_six : (exists inside enough : Bool) → Bound (numbered exists inside false enough) 6
at_six true true enough = record { some_cause = omega arith; no_lower = omega arith }
at_six true false enough = record { some_cause = omega arith; no_lower = omega arith }
at_six false inside enough = record { some_cause = omega arith; no_lower = omega arith }

at_seven : (exists inside own : Bool) → Bound (numbered exists inside own false) 7
at_seven true true true = record { some_cause = omega arith; no_lower = omega arith }
at_seven true true false = record { some_cause = omega arith; no_lower = omega arith }
at_seven true false own = record { some_cause = omega arith; no_lower = omega arith }
at_seven false inside own = record { some_cause = omega arith; no_lower = omega arith }

-- ---- a kind in a direction

module _ {F R A : Type 0} (K : Kind AnyType F R A) where
  abbrev pub coded : Direction → AnyType → List ℕ → Answer
  coded encodes t text = encoded K t text
  coded decodes t octets = decoded K t octets

  -- Whether octets are what the encoder writes; of a text that is not asked.
  abbrev own_as : Direction → AnyType → List ℕ → A → Bool
  own_as encodes t text v = true
  own_as decodes t octets v = eq_list octets (K.encoding (K.row t) v)

  none_answer : (d : Direction) (t : AnyType) (input : List ℕ) → K.well_formed t ≡ true → read_as K d t input ≡ None → coded d t input ≡ refused Refusal.Form
  none_answer encodes t input w r = Coding.encoded_none K t input w r
  none_answer decodes t input w r = Coding.decoded_none K t input w r

  some_answer : (d : Direction) (t : AnyType) (input : List ℕ) (v : A) → K.well_formed t ≡ true → read_as K d t input ≡ Some v
      → coded d t input ≡ answered (K.exists v) (K.in_type t v) (own_as d t input v) (result_as K d t v) (K.count (K.row t) v)
  some_answer encodes t input v w r = Coding.encoded_some K t input w v r
  some_answer decodes t input v w r = Coding.decoded_some K t input w v r

  -- Octets that are what the encoder writes pass the test, and so does every text; what fails it is neither.
  own_passes : (d : Direction) (t : AnyType) (input : List ℕ) (v : A) → (d ≡ decodes → input ≡ K.encoding (K.row t) v) → own_as d t input v ≡ true
  own_passes encodes t input v f = refl
  own_passes decodes t input v f = equal_test input (K.encoding (K.row t) v) (f refl)

  passes_own : (d : Direction) (t : AnyType) (input : List ℕ) (v : A) → own_as d t input v ≡ true → d ≡ decodes → input ≡ K.encoding (K.row t) v
  passes_own encodes t input v h d = absurd (let z : ◌≡◌ {A = ℕ} 0 1 = cc in omega arith)
  passes_own decodes t input v h d = equal input (K.encoding (K.row t) v) h

  fails_decodes : (d : Direction) (t : AnyType) (input : List ℕ) (v : A) → own_as d t input v ≡ false → d ≡ decodes
  fails_decodes encodes t input v h = absurd (false≢true (sym h))
  fails_decodes decodes t input v h = refl

other_fails : (b : Bool) → (b ≡ true → ⊥) → b ≡ false
other_fails true f = absurd (f refl)
other_fails false f = refl

-- ---- the number and its cause

module _ {F R A : Type 0} (K : Kind AnyType F R A) (d : Direction) (settings : List ℕ) (limits : Limits) (input room : List ℕ) (answer : Answer)
    (x : answer ≡ under_type (type_of limits settings) λ t. coded K d t input)
    (f : (t : AnyType) → type_of limits settings ≡ TypeRead.«Type» t → K.well_formed t ≡ true) where
  abbrev Why : ℕ → Type 0
  Why n = Cause K d settings limits input room n

  abbrev number : ℕ
  number = (outcome_of answer room).number

  abbrev enough : AnyType → A → Bool
  enough t v = leb (length (result_as K d t v)) (length room)

  of_refusal : (why : Refusal) → under_type (type_of limits settings) (λ t. coded K d t input) ≡ refused why → number ≡ number_of why
  unfolding outcome_of
  of_refusal why a = ap (λ (y : Answer). (outcome_of y room).number) (x ∙ a)

  of_none : (t : AnyType) → type_of limits settings ≡ TypeRead.«Type» t → read_as K d t input ≡ None → number ≡ 3
  of_none t q r = of_refusal Refusal.Form (rw q (none_answer K d t input (f t q) r))

  of_value : (t : AnyType) (v : A) → Gives K d settings limits input t v → number ≡ numbered (K.exists v) (K.in_type t v) (own_as K d t input v) (enough t v)
  of_value t v g =
      ap (λ (y : Answer). (outcome_of y room).number) (x ∙ rw g.type_is (some_answer K d t input v (f t g.type_is) g.value-is))
      ∙ number-of (K.exists v) (K.in_type t v) (own_as K d t input v) (result_as K d t v) room (K.count (K.row t) v)

  -- What is returned has its cause.
  caused : Why number
  caused = typed (type_of limits settings) refl
    where
      in_room : (t : AnyType) (v : A) → Gives K d settings limits input t v → holds K t v ≡ true → (d ≡ decodes → input ≡ K.encoding (K.row t) v)
          → (b : Bool) → enough t v ≡ b → Why (cond b 0 7)
      in_room t v g h o true b = zero t v g h o (leb-true _ _ b)
      in_room t v g h o false b = seven t v g (leb-false _ _ b)

      own : (t : AnyType) (v : A) → Gives K d settings limits input t v → holds K t v ≡ true → (b : Bool) → own_as K d t input v ≡ b
          → Why (cond b (cond (enough t v) 0 7) 6)
      own t v g h true b = in_room t v g h (passes_own K d t input v b) (enough t v) refl
      own t v g h false b = six t v g (fails_decodes K d t input v b) (λ q. false≢true (sym b ∙ own_passes K d t input v (λ e. q)))

      inside : (t : AnyType) (v : A) → Gives K d settings limits input t v → K.exists v ≡ true → (b : Bool) → K.in_type t v ≡ b
          → Why (cond b (cond (own_as K d t input v) (cond (enough t v) 0 7) 6) 5)
      inside t v g e true b = own t v g (rw (e, b)) (own_as K d t input v) refl
      inside t v g e false b = five t v g b

      real : (t : AnyType) (v : A) → Gives K d settings limits input t v → (b : Bool) → K.exists v ≡ b
          → Why (numbered b (K.in_type t v) (own_as K d t input v) (enough t v))
      real t v g true b = inside t v g b (K.in_type t v) refl
      real t v g false b = four t v g b

      reads : (t : AnyType) → type_of limits settings ≡ TypeRead.«Type» t → (o : Option A) → read_as K d t input ≡ o → Why number
      reads t q None r = rw (of_none t q r) (three t q r)
      reads t q (Some v) r =
          let g : Gives K d settings limits input t v = record { type_is = q; value-is = r } in
          rw (of_value t v g) (real t v g (K.exists v) refl)

      typed : (r : TypeRead) → type_of limits settings ≡ r → Why number
      typed (TypeRead.«Type» t) q = reads t q (read_as K d t input) refl
      typed TypeRead.Unreadable q = rw (of_refusal Refusal.Settings (rw q)) (one q)
      typed TypeRead.NoRow q = rw (of_refusal Refusal.Rows (rw q)) (two q)

  just : (n : ℕ) → 1 ≤ n → number ≡ n → Bound number n
  just n h q = record { some_cause = omega arith; no_lower = omega arith }

  bound : (m : ℕ) → 1 ≤ m → Why m → Bound number m
  bound m h (one q) = just 1 h (of_refusal Refusal.Settings (rw q))
  bound m h (two q) = just 2 h (of_refusal Refusal.Rows (rw q))
  bound m h (three t q r) = just 3 h (of_none t q r)
  bound m h (four t v g e) = just 4 h (of_value t v g ∙ rw e)
  bound m h (five t v g e) = rw (of_value t v g, e) (at_five (K.exists v) (own_as K d t input v) (enough t v))
  bound m h (six t v g e n) =
      let o : own_as K d t input v ≡ false = other_fails (own_as K d t input v) (λ b. n (passes_own K d t input v b e)) in
      rw (of_value t v g, o) (at_six (K.exists v) (K.in_type t v) (enough t v))
  bound m h (seven t v g e) =
      let s : enough t v ≡ false = lt-leb _ _ e in
      rw (of_value t v g, s) (at_seven (K.exists v) (K.in_type t v) (own_as K d t input v))
  bound m h (zero t v g e o l) = absurd (omega arith)

  succeeds : Why 0 → number ≡ 0
  succeeds (zero t v g h o l) =
      let p = both (K.exists v) (K.in_type t v) h in
      of_value t v g ∙ rw (p.0, p.1, own_passes K d t input v o, le-leb (length (result_as K d t v)) (length room) l)

  exactly : (n : ℕ) → Why n → ((m : ℕ) → 1 ≤ m → m < n → Why m → ⊥) → number ≡ n
  exactly naught c n = succeeds c
  exactly (suc n) c lower = go (leb (suc n) number) refl
    where
      go : (b : Bool) → leb (suc n) number ≡ b → number ≡ suc n
      go true b = let l = leb-true (suc n) number b in let k = (bound (suc n) (omega arith) c).no_lower in omega arith
      go false b =
          let l = leb-false (suc n) number b in
          let k = (bound (suc n) (omega arith) c).some_cause in
          absurd (lower number k l caused)

  -- The number is the lowest that has a cause.
  pub number-given : Given Why number
  number-given = record {
    caused = caused;
    lowest = λ m h l c. let b = (bound m h c).no_lower in omega arith;
    none_after_0 = λ q m h c. let b = (bound m h c).some_cause in omega arith;
    exactly = exactly;
  }
