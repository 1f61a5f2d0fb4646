-- What is read from bits and from octets: exactly the loose spellings of a value, whatever follows; and what was laid out.
use mathlib.Core.Path.{◌≡◌}
use mathlib.Core.Bool.{true, false}
use mathlib.Core.List.{◌++◌}
use Prim.Native.Nat.{◌*◌, ◌-◌}
use lib.ListN.{length, replicate}
use Rattle.octets.specs.Found.{found}
use Rattle.answers.specs.Counts.{octets_for}
use Rattle.texts.specs.Forms.{value_form}
use Rattle.texts.specs.declared.forms.Form.{Form}
use Rattle.texts.specs.declared.values.Value.{Value}
use Rattle.fields.specs.Bits.{BitString, octets_of}
use Rattle.fields.specs.Fields.{layout}
use Rattle.fields.specs.Readings.{run}
use Rattle.fields.specs.Spelled.{spelled_fields}
use Rattle.fields.proofs.Laws.Bits.{unpacked_octets}
use Rattle.fields.proofs.Laws.Readings.{run-spelled, run_only, run-layout}
use Rattle.types.specs.declared.years.YearRow.{YearRow}
use Rattle.rows.specs.Fields.{fields_of}
use Rattle.rows.specs.Readings.{read_value, read_octets}
use Rattle.rows.specs.Ranges.{carried}
use Rattle.rows.specs.Loose.{ReadableBits}
use Rattle.rows.proofs.Laws.Rows.{over_loose, over-fields}
use Rattle.rows.proofs.Laws.Found.{drives_only}

module _ (row : YearRow) (form : Form) (v : Value) (bits rest : BitString) where
  -- Only loose spellings are read.
  pub reads_only : run (read_value row form) bits ≡ found v rest → ReadableBits row form v bits rest
  reads_only e =
      let w = run_only (read_value row form) bits v rest e in
      let d = drives_only row form (spelled_fields w.spelled) v w.drives in
      record {
        other = d.other;
        long = d.long;
        spelled = w.spelled;
        formed = d.formed;
        in_range = d.fits;
        fields = d.is;
        well = w.well;
        stood = w.stood;
      }

  -- All loose spellings are read.
  pub reads_all : ReadableBits row form v bits rest → run (read_value row form) bits ≡ found v rest
  reads_all r =
      let d = over_loose r.other r.long row v r.in_range in
      simp (r.stood, ← r.formed) (run-spelled (read_value row (value_form v)) r.spelled rest v r.well (simp r.fields d))

module _ (row : YearRow) (v : Value) (h : carried v ≡ true) where
  -- What was laid out is read, whatever follows.
  pub read_layout : (s : BitString) → run (read_value row (value_form v)) (layout (fields_of row v) ++ s) ≡ found v s
  read_layout s = run-layout (read_value row (value_form v)) (fields_of row v) s v (over-fields row v h)

  -- What was laid out is read from its octets, and the filling is left.
  pub read-octets : read_octets row (value_form v) (octets_of (layout (fields_of row v)))
      ≡ found v (replicate (8 * (octets_for (record { count = length (layout (fields_of row v)) })).count - length (layout (fields_of row v))) false)
  unfolding read_octets
  read-octets = rw unpacked_octets (read_layout _)

-- A value that is read has the form.
pub bits-form : (row : YearRow) (form : Form) (bits rest : BitString) (v : Value) → run (read_value row form) bits ≡ found v rest → value_form v ≡ form
bits-form row form bits rest v e = (reads_only row form v bits rest e).formed
