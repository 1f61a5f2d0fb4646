-- Unaligned PER meets what is asked of a kind.
use Rattle.std.specs.Prelude.{Option, Some, None, Ok}
use mathlib.Core.Path.{◌≡◌, refl, ap}
use mathlib.Core.Bool.{Bool, true, cond}
use mathlib.Core.List.{List}
use Prim.Native.Nat.{ℕ, ◌≤◌}
use lib.ListN.{length}
use native.Mathlib.Omega.{arith}
use Rattle.octets.specs.Found.{Found, found, nothing, of_found}
use Rattle.octets.specs.Octets.{eq_list}
use Rattle.answers.specs.Outcomes.{Answer, done, refused}
use Rattle.answers.specs.declared.refusals.Refusal.{Refusal}
use Rattle.answers.specs.declared.counts.Bits.{Bits}
use Rattle.texts.specs.Times.{canonical}
use Rattle.texts.specs.declared.forms.Form.{Form}
use Rattle.texts.specs.declared.values.Value.{Value}
use Rattle.texts.specs.Texts.{text_of}
use Rattle.types.specs.Types.{form_of, well_formed}
use Rattle.types.specs.declared.types.«Type».{«Type» as Ty}
use Rattle.held_values.specs.Admission.{admitted, judged}
use Rattle.held_values.specs.Existence.{exists_value}
use Rattle.held_values.proofs.Laws.Existing.{judged-held, printed-text}
use Rattle.held_values.proofs.Laws.Holding.{held, in-type}
use Rattle.fields.specs.Bits.{BitString, unpacked}
use Rattle.rows.specs.Fields.{year_row_of}
use Rattle.rows.specs.Loose.{ReadableBits}
use Rattle.rows.specs.Readings.{read_octets}
use Rattle.types.specs.declared.years.YearRow.{YearRow}
use Rattle.rows.proofs.Laws.Exact.{read-octets, reads_only, reads_all}
use Rattle.kinds.specs.Coding.{compared, decoded, judged_as, judged_octets}
use Rattle.kinds.specs.Lawful.{Accepted, Holds, Lawful}
use Rattle.kinds.proofs.Laws.Coding as Coding
use Rattle.held_values.proofs.Laws.Encodings.{admission_answer, answer_with, decoded-short, encoded-admitted, held_by, judged-as, text-read}
use Rattle.per.specs.Per.{count_of, encoding_of, in_per, per, per_encoded, per_decoded}
use Rattle.per.proofs.Laws.Carried.{held_carried}
use Rattle.per.proofs.Laws.Packed.{packed-bits, encoding-short, packed-front, packed-short}

octets_read : (t : Ty) (v : Value) → Holds per t v → of_found (read_octets (year_row_of t) (form_of t) (encoding_of (year_row_of t) v)) ≡ Some v
unfolding encoding_of
octets_read t v h = rw (← (in-type t v h.inside).0) (ap of_found (read-octets (year_row_of t) v (held_carried t v (held_by in_per t v h))))

pub per_lawful : Lawful per
per_lawful = record { text_own = λ t v h. text-read in_per t v h canonical; octets_own = octets_read }

-- Whatever is accepted is the encoding of the value returned.
pub per_accepted : (t : Ty) (octets text : List ℕ) {bits : Bits} → per_decoded t octets ≡ done text bits → Accepted per t octets text
per_accepted t octets text {bits} e = Coding.decoded_only per t octets text bits e

-- Two values of one type never share an encoding.
pub per-one-encoding : (t : Ty) (a b : Value) → Holds per t a → Holds per t b → encoding_of (year_row_of t) a ≡ encoding_of (year_row_of t) b → a ≡ b
per-one-encoding t a b h k e = Coding.one-encoding per per_lawful t a b h k e

-- A value is read exactly where a loose spelling of it stands in front, whatever follows.
pub per-reads : (row : YearRow) (form : Form) (octets : List ℕ) (v : Value) → of_found (read_octets row form octets) ≡ Some v
    → (rest : BitString) × ReadableBits row form v (unpacked octets) rest
unfolding read_octets
per-reads row form octets v e = go (read_octets row form octets) refl e
  where
    go : (g : Found Bool Value) → read_octets row form octets ≡ g → of_found g ≡ Some v → (rest : BitString) × ReadableBits row form v (unpacked octets) rest
    go (found w rest) r e = let q : w ≡ v = cc in (rest, reads_only row form v (unpacked octets) rest (rw (← q) r))
    go nothing r e = absurd (let z : ◌≡◌ {A = ℕ} 0 1 = cc in omega arith)

pub per-reads_all : (row : YearRow) (form : Form) (octets : List ℕ) (v : Value) (rest : BitString) → ReadableBits row form v (unpacked octets) rest
    → of_found (read_octets row form octets) ≡ Some v
unfolding read_octets
per-reads_all row form octets v rest r = ap of_found (reads_all row form v (unpacked octets) rest r)

-- ---- as the code has it

-- The encoder's answer is that of an admission.
pub per-admitted : (t : Ty) (text : List ℕ) → per_encoded t text ≡ admission_answer in_per (year_row_of t) (admitted t text)
per-admitted = encoded-admitted in_per

-- What is judged of a value, as the code has it.
pub per-judged_as : (t : Ty) (v : Value) (answer : Answer) → judged_as per t v answer ≡ answer_with answer (judged t v)
per-judged_as = judged-as in_per

-- What octets give under a type, as the code has it.
abbrev pub read_answer : Ty → List ℕ → Option Value → Answer
read_answer t octets None = refused Refusal.Form
read_answer t octets (Some v) = answer_with
    (cond (eq_list octets (encoding_of (year_row_of t) v)) (done (text_of v) (count_of (year_row_of t) v)) (refused Refusal.Encoding)) (judged t v)

pub per-decoded : (t : Ty) (octets : List ℕ) → per_decoded t octets
    ≡ cond (well_formed t) (read_answer t octets (of_found (read_octets (year_row_of t) (form_of t) octets))) (refused Refusal.Settings)
unfolding decoded judged_octets compared
per-decoded t octets = ap (λ (a : Answer). cond (well_formed t) a (refused Refusal.Settings)) (go (of_found (read_octets (year_row_of t) (form_of t) octets)))
  where
    go : (o : Option Value) → judged_octets per t octets o ≡ read_answer t octets o
    go None = refl
    go (Some v) = per-judged_as t v _

-- A value that is judged to be of a type exists, and its text is printed.
pub judged_exists : (t : Ty) (v : Value) → judged t v ≡ Ok tt → exists_value v ≡ true
judged_exists t v e = (held _ _ (judged-held t v e)).0

-- What encoding and decoding answer, for the goals of the code.
pub ruleset coding = (per-admitted, per-decoded, judged_exists, printed-text, packed-bits, packed-short, packed-front)

-- ---- how long results are

pub per-encoded-short : (t : Ty) (text result : List ℕ) (bits : Bits) → per_encoded t text ≡ done result bits → length result ≤ 16
per-encoded-short t text result bits e =
    let x = Coding.encoded_only per t text result bits e in
    let q : encoding_of (year_row_of t) x.0 ≡ result = let r = x.3 in cc in
    rw (← q) (encoding-short (year_row_of t) x.0)

pub per-decoded-short : (t : Ty) (octets result : List ℕ) (bits : Bits) → per_decoded t octets ≡ done result bits → length result ≤ 52
per-decoded-short = decoded-short in_per
