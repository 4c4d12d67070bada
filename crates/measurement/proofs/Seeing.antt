-- What a quick pass settles for a measurement: the tests, how many records have the outcome, and
-- that none overflows when it is divided. For the proof of `measure_scanned`. Assumes nothing.
use mathlib.Core.Path.{◌≡◌, refl, sym, ap₂, ◌∙◌}
use Prim.Native.Nat.{ℕ, ◌+◌, ◌-◌, ◌/◌, ◌<◌, ◌≤◌}
use native.Mathlib.Omega.{arith}
use native.Mathlib.Nat.{le_trans, mul-le-mul_right}
use mathlib.Core.List.{List, [], ◌∷◌, map}
use mathlib.Core.Bool.{Bool, true, false, cond, ◌&&◌}
use lib.Ieee.{Float}
use lib.Ieee.Scale.{finite}
use lib.ListN.{length}
use Rattle.amplitudes.specs.Amplitudes.{over}
use Rattle.amplitudes.specs.Moderate.{away_from_zero}
use Rattle.keys.specs.Lists.{All}
use Rattle.merge.specs.Records.{key_of, amplitude_of, finite_record, moderate_record}
use Rattle.merge.specs.Laws.{WholeRecords, part-whole, record-key-length, encode-finite, over-fits, moderate-over, moderate-amplitude, all_append, all-side, side-both}
use Rattle.merge.specs.Sorting.{side}
use Rattle.statevector.specs.declared.State.{State}
use Rattle.statevector.specs.Scans.{QuickFine}
use Rattle.statevector.specs.States.{part_of}
use Rattle.statevector.specs.Tests.{all_finite, qubit_row, finite_row, record_rows}
use Rattle.statevector.specs.Laws.{HeadFine, head-facts, head-fine, qubit-within, first-after, row-finite}
use Rattle.measurement.specs.declared.Projection.{Projection}
use Rattle.measurement.specs.Measurement.{kept_of, kept_records, divided}
use Rattle.measurement.specs.Passes.{divided_records, seen_of, HeadPassed, Passed}
use Rattle.measurement.proofs.Ways.{part_size}

-- ---- records

-- finite once they are divided: those of moderate size, by a scale away from zero
divided-fine : (n : ℕ) (scale : Float) → away_from_zero scale ≡ true → (r : List ℕ) → length r ≡ n + 2 → moderate_record n r ≡ true → finite_record n (divided n scale r) ≡ true
unfolding divided
divided-fine n scale e r l m =
    encode-finite n (record { key = key_of n r; amp = over (amplitude_of n r) scale }) (record-key-length n r l) (over-fits (amplitude_of n r) scale)
    ∙ moderate-over (amplitude_of n r) scale (sym (moderate-amplitude n r) ∙ m) e

all-divided-fine : (n : ℕ) (scale : Float) → away_from_zero scale ≡ true → (rs : List (List ℕ)) → WholeRecords n rs → All (λ r. moderate_record n r ≡ true) rs → all_finite n (map (divided n scale) rs) ≡ true
unfolding all_finite
all-divided-fine n scale e [] w m = refl
all-divided-fine n scale e (r ∷ rs) w m = ap₂ ◌&&◌ (divided-fine n scale e r w.0 m.0) (all-divided-fine n scale e rs w.1 m.1)

-- how many have the outcome, by how many have the bit set
some-set : (n q : ℕ) (rs : List (List ℕ)) (ones all : ℕ) → ones ≡ length (side n q true rs) → length rs ≡ all → ones ≤ all
some-set n q rs ones all e l = let b = side-both n q rs in omega arith

set-count : (n q : ℕ) (v : Bool) (rs : List (List ℕ)) (ones all : ℕ) → ones ≡ length (side n q true rs) → length rs ≡ all → cond v ones (all - ones) ≡ length (side n q v rs)
set-count n q true rs ones all e l = e
set-count n q false rs ones all e l = let b = side-both n q rs in omega arith

-- ---- a state

module _ (s : State) (p : Projection) (front : List ℕ) where
  -- the size of a part
  abbrev size : Bool → ℕ
  size b = cond b s.n1 s.n0

  pub few-set : (b : Bool) (ones : ℕ) → ones ≡ length (side s.width p.q true (part_of b s front)) → ones ≤ size b
  few-set b ones e = some-set s.width p.q (part_of b s front) ones (size b) e (part_size s front b)

  kept-count : (b : Bool) (ones : ℕ) → ones ≡ length (side s.width p.q true (part_of b s front)) → cond p.v ones (size b - ones) ≡ length (kept_of p.q p.v b s front)
  kept-count b ones e = set-count s.width p.q p.v (part_of b s front) ones (size b) e (part_size s front b)

  -- where the rows that read no record found nothing
  module _ (e : HeadPassed s p front) where
    pub head : HeadFine s front (qubit_row s p.q ∷ [])
    head = head-facts s front (qubit_row s p.q ∷ []) e

    pub inside : p.q / 64 < s.width
    inside = let w = qubit-within s p.q head.names in omega arith

    whole : (b : Bool) → WholeRecords s.width (part_of b s front)
    whole false = part-whole s.width front 0 s.n0 (le_trans (mul-le-mul_right (s.width + 2) (omega arith)) head.room)
    whole true = part-whole s.width front s.n0 (s.n0 + s.n1) head.room

    module _ (k0 k1 : ℕ) (z : QuickFine s front p.q k0 k1) where
      -- nor do those that read records, where the scale is finite
      pub seen-passed : finite p.scale ≡ true → Passed s p front
      seen-passed f =
          head-fine s front (qubit_row s p.q ∷ []) (finite_row (finite p.scale) ∷ []) [] e
          ∙ first-after (record_rows s front) (finite_row (finite p.scale) ∷ []) z.fine
          ∙ row-finite (finite p.scale) f

      -- and nothing overflows, where it is away from zero
      seen-fine : away_from_zero p.scale ≡ true → all_finite s.width (divided_records s p front) ≡ true
      seen-fine a = all-divided-fine s.width p.scale a (kept_records p.q p.v s front) (each (λ r. length r ≡ s.width + 2) whole) (each (λ r. moderate_record s.width r ≡ true) z.moderate)
        where
          each : (P : List ℕ → Type 0) → ((b : Bool) → All P (part_of b s front)) → All P (kept_records p.q p.v s front)
          each P h =
              all_append P (kept_of p.q p.v false s front) (kept_of p.q p.v true s front) (all-side s.width p.q p.v P (part_of false s front) (h false)) (all-side s.width p.q p.v P (part_of true s front) (h true))

      pub seen-quick : away_from_zero p.scale ≡ true → record { k0 = cond p.v k0 (s.n0 - k0); k1 = cond p.v k1 (s.n1 - k1); fine = true } ≡ seen_of s p front
      seen-quick a = rw (kept-count false k0 z.ones0, kept-count true k1 z.ones1, seen-fine a) refl
