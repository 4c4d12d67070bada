-- What a pair of records adds to the new parts: sizes, records, and the test for overflow. For the
-- proofs of the gate's passes. Assumes nothing.
use mathlib.Core.Path.{◌≡◌, refl}
use Prim.Native.Nat.{ℕ, ◌+◌}
use native.Mathlib.Omega.{arith}
use mathlib.Core.List.{List, ◌∷◌, map}
use mathlib.Core.Bool.{Bool, true, false, cond, ◌&&◌}
use Rattle.std.specs.Prelude.{None, Some}
use lib.ListN.{length}
use Rattle.amplitudes.specs.declared.Accumulated.{Accumulated}
use Rattle.amplitudes.specs.declared.Complex.{Complex}
use Rattle.amplitudes.specs.declared.U4.{U4}
use Rattle.amplitudes.specs.Amplitudes.{finite_c, times}
use Rattle.amplitudes.specs.declared.Combined as amplitudes
use Rattle.amplitudes.specs.Pairs.{is_kept, accumulated, combined}
use Rattle.merge.specs.Records.{Entry, new_key, amplitude_of, encode}
use Rattle.merge.specs.Laws.{pair_is}
use Rattle.merge.specs.Pairs.{Pair, lhs, rhs, both, unpaired_count}
use Rattle.merge.specs.Sorting.{choose}
use Rattle.gates.specs.Gate.{entered}
use Rattle.gates.specs.Passes.{unpaired_at, unpaired_record, sum_record, new_in, new_key_in, pair_part, pairs_finite, part_records}

-- ---- a pair's part in sizes, records and test

-- a record without a partner, and the sums of two that are partners
abbrev pub alone_pair : Bool → List ℕ → Pair
alone_pair false r = lhs r
alone_pair true r = rhs r

abbrev pub sum_of : ℕ → U4 → List ℕ → List ℕ → Bool → Accumulated
sum_of n g x y false = accumulated (times g.s0 (amplitude_of n x)) (times g.f1 (amplitude_of n y))
sum_of n g x y true = accumulated (times g.f0 (amplitude_of n x)) (times g.s1 (amplitude_of n y))

-- as `combine` has them
abbrev pub sums_of : ℕ → U4 → List ℕ → List ℕ → amplitudes.Combined
sums_of n g x y = record { stay = sum_of n g x y false; flip = sum_of n g x y true }

pub sums-are : (n : ℕ) (g : U4) (x y : List ℕ) → combined g false (amplitude_of n x) (amplitude_of n y) ≡ sums_of n g x y
sums-are n g x y = pair_is g false (amplitude_of n x) (amplitude_of n y)

module _ (n q : ℕ) (g : U4) (ps : List Pair) where
  pub length-alone : (set b : Bool) (r : List ℕ) → length (pair_part n q g b (alone_pair set r ∷ ps)) ≡ length (pair_part n q g b ps) + 1
  unfolding pair_part new_in
  length-alone false false r = omega arith
  length-alone false true r = omega arith
  length-alone true false r = omega arith
  length-alone true true r = omega arith

  pub records-alone : (set b : Bool) (r : List ℕ) → part_records n q g b (alone_pair set r ∷ ps) ≡ unpaired_record n q g set b r ∷ part_records n q g b ps
  unfolding part_records pair_part new_in
  records-alone false false r = refl
  records-alone false true r = refl
  records-alone true false r = refl
  records-alone true true r = refl

  pub finite-alone : (set : Bool) (r : List ℕ)
      → pairs_finite n g (alone_pair set r ∷ ps) ≡ ((finite_c (unpaired_at g set false (amplitude_of n r)) && finite_c (unpaired_at g set true (amplitude_of n r))) && pairs_finite n g ps)
  unfolding pairs_finite new_in
  finite-alone false r = refl
  finite-alone true r = refl

  pub alones-alone : (set : Bool) (r : List ℕ) → unpaired_count (alone_pair set r ∷ ps) ≡ unpaired_count ps + 1
  alones-alone false r = refl
  alones-alone true r = refl

  -- two that are partners
  module _ (x y : List ℕ) where
    pub length_both : (b : Bool) → length (pair_part n q g b (both x y ∷ ps)) ≡ length (pair_part n q g b ps) + cond (is_kept (sum_of n g x y b).verdict) 1 0
    unfolding pair_part new_in
    length_both b = go b
      where
        kept : (t : Bool) (k : List ℕ) (a : Complex) (es : List Entry) → length (entered k (cond t (Some a) None) es) ≡ length es + cond t 1 0
        kept true k a es = omega arith
        kept false k a es = omega arith

        go : (b : Bool) → length (pair_part n q g b (both x y ∷ ps)) ≡ length (pair_part n q g b ps) + cond (is_kept (sum_of n g x y b).verdict) 1 0
        go false = kept (is_kept (sum_of n g x y false).verdict) (new_key_in n q false (both x y)) (sum_of n g x y false).sum (pair_part n q g false ps)
        go true = kept (is_kept (sum_of n g x y true).verdict) (new_key_in n q true (both x y)) (sum_of n g x y true).sum (pair_part n q g true ps)

    pub records-both : (b : Bool) → part_records n q g b (both x y ∷ ps) ≡ choose (is_kept (sum_of n g x y b).verdict) (sum_record n q (cond b y x) (sum_of n g x y b) ∷ part_records n q g b ps) (part_records n q g b ps)
    unfolding part_records pair_part new_in
    records-both b = go b
      where
        kept : (t : Bool) (k : List ℕ) (a : Complex) (es : List Entry) → map encode (entered k (cond t (Some a) None) es) ≡ choose t (encode (record { key = k; amp = a }) ∷ map encode es) (map encode es)
        kept true k a es = refl
        kept false k a es = refl

        go : (b : Bool) → part_records n q g b (both x y ∷ ps) ≡ choose (is_kept (sum_of n g x y b).verdict) (sum_record n q (cond b y x) (sum_of n g x y b) ∷ part_records n q g b ps) (part_records n q g b ps)
        go false = kept (is_kept (sum_of n g x y false).verdict) (new_key n q false x) (sum_of n g x y false).sum (pair_part n q g false ps)
        go true = kept (is_kept (sum_of n g x y true).verdict) (new_key n q false y) (sum_of n g x y true).sum (pair_part n q g true ps)

    pub finite-both : pairs_finite n g (both x y ∷ ps) ≡ ((finite_c (sum_of n g x y false).sum && finite_c (sum_of n g x y true).sum) && pairs_finite n g ps)
    unfolding pairs_finite new_in
    finite-both = refl
