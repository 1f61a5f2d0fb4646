-- Durations in octets: what was laid out is read, and what is read exists.
use Rattle.std.specs.Prelude.{Some}
use mathlib.Core.Path.{◌≡◌, refl}
use mathlib.Core.Bool.{Bool, true}
use mathlib.Core.List.{List, [], append-nil}
use Prim.Native.Nat.{ℕ}
use native.Mathlib.Omega.{arith}
use Rattle.octets.specs.Found.{Found, found, nothing, of_found}
use Rattle.fields.specs.Bits.{octets_of, unpacked}
use Rattle.fields.specs.Fields.{layout}
use Rattle.fields.specs.Readings.{over, run}
use Rattle.fields.specs.Spelled.{spelled_fields}
use Rattle.fields.proofs.Laws.Bits.{unpacked_octets}
use Rattle.fields.proofs.Laws.Readings.{run-layout, run_only}
use Rattle.durations.specs.Durations.{exists_duration}
use Rattle.durations.specs.Fields.{duration_fields}
use Rattle.durations.specs.Readings.{duration_in_octets, read_fields}
use Rattle.durations.specs.declared.Duration.{Duration}
use Rattle.durations.proofs.Laws.Fields.{over-duration}
use Rattle.durations.proofs.Laws.Found.{read_exists}

-- The octets of a duration give it.
pub octets_back : (d : Duration) → exists_duration d ≡ true → duration_in_octets (octets_of (layout (duration_fields d))) ≡ Some d
unfolding duration_in_octets
octets_back d e =
    let o : over read_fields (duration_fields d) ≡ found d [] = simp append-nil at (over-duration d [] e) in
    rw (unpacked_octets (layout (duration_fields d)), run-layout read_fields (duration_fields d) _ d o)

-- What octets give exists: of durations there is no refusal 4.
pub octets_exist : (octets : List ℕ) (d : Duration) → duration_in_octets octets ≡ Some d → exists_duration d ≡ true
unfolding duration_in_octets
octets_exist octets d = go (run read_fields (unpacked octets)) refl
  where
    go : (g : Found Bool Duration) → run read_fields (unpacked octets) ≡ g → of_found g ≡ Some d → exists_duration d ≡ true
    go (found c rest) r e =
        let q : c ≡ d = cc in
        let w = run_only read_fields (unpacked octets) c rest r in
        rw (← q) (read_exists (spelled_fields w.spelled) c w.drives)
    go nothing r e = absurd (let z : ◌≡◌ {A = ℕ} 0 1 = cc in omega arith)
