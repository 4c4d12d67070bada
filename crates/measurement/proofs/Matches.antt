-- Records of an outcome, counted and tested before they are divided. For the proof of
-- `do_measure_count`. Assumes nothing.
use mathlib.Core.Path.{◌≡◌, refl, sym, ap, ◌∙◌, subst}
use Prim.Native.Nat.{ℕ, ◌+◌, ◌≤◌}
use native.Mathlib.Omega.{arith}
use mathlib.Core.List.{List, [], ◌∷◌, map}
use mathlib.Core.Bool.{Bool, true, false, not, cond, ◌&&◌, and_assoc, and-true, beq}
use lib.Dec.{T}
use lib.Ieee.{Float, is_nan}
use lib.Ieee.Scale.{finite}
use lib.ListN.{length, length-map}
use lib.Seq.{sets}
use Rattle.amplitudes.specs.declared.Complex.{Complex}
use Rattle.amplitudes.specs.Amplitudes.{over, finite_c}
use Rattle.keys.specs.Lists.{All}
use Rattle.merge.specs.declared.record.Records.{Records}
use Rattle.merge.specs.Records.{record_bit, key_of, amplitude_of, finite_record, encode}
use Rattle.merge.specs.Laws.{encode-finite, record-key-length, encode-length, side-none, side-some, side-count, side-fewer, records-whole, over-fits, finite-no-nan, all_both, and-true-l, and_true_r}
use Rattle.merge.specs.Sorting.{choose, side}
use Rattle.merge.specs.Walks.{Whole, records_left}
use Rattle.measurement.specs.Measurement.{divided}
use Rattle.measurement.specs.Passes.{divided_side}
use Rattle.statevector.specs.Tests.{all_finite}

-- ---- one record

pub divided-is : (n : ℕ) (scale : Float) (r : List ℕ) → divided n scale r ≡ encode (record { key = key_of n r; amp = over (amplitude_of n r) scale })
unfolding divided
divided-is n scale r = refl

pub written : (n : ℕ) (scale : Float) (r ws : List ℕ) (i : ℕ) (a : Complex) → a ≡ over (amplitude_of n r) scale → sets ws i (encode (record { key = key_of n r; amp = a })) ≡ sets ws i (divided n scale r)
written n scale r ws i a e = ap (λ (z : Complex). sets ws i (encode (record { key = key_of n r; amp = z }))) e ∙ ap (sets ws i) (sym (divided-is n scale r))

pub divided-length : (n : ℕ) (scale : Float) (r : List ℕ) → length r ≡ n + 2 → length (divided n scale r) ≡ n + 2
unfolding divided
divided-length n scale r l = encode-length n (record { key = key_of n r; amp = over (amplitude_of n r) scale }) (record-key-length n r l)

pub divided-finite : (n : ℕ) (scale : Float) (r : List ℕ) → length r ≡ n + 2 → finite_record n (divided n scale r) ≡ finite_c (over (amplitude_of n r) scale)
unfolding divided
divided-finite n scale r l = encode-finite n (record { key = key_of n r; amp = over (amplitude_of n r) scale }) (record-key-length n r l) (over-fits (amplitude_of n r) scale)

-- neither part of a finite amplitude is a NaN
pub no-nans : (a : Complex) → finite_c a ≡ true → T (not (is_nan a.re)) × T (not (is_nan a.im))
no-nans a e =
    (finite-no-nan a.re (subst T (sym (and-true-l (finite a.re) (finite a.im) e)) tt), finite-no-nan a.im (subst T (sym (and_true_r (finite a.re) (finite a.im) e)) tt))

-- ---- the test before

-- the records divided
abbrev pub all-divided : ℕ → Float → List (List ℕ) → List (List ℕ)
all-divided n scale rs = map (divided n scale) rs

pub divided-many : (n : ℕ) (scale : Float) (rs : List (List ℕ)) → length (all-divided n scale rs) ≡ length rs
divided-many n scale rs = length-map rs (divided n scale)

pub all-finite-cons : (n : ℕ) (r : List ℕ) (rs : List (List ℕ)) → all_finite n (r ∷ rs) ≡ (finite_record n r && all_finite n rs)
unfolding all_finite
all-finite-cons n r rs = refl

pub all-finite-none : (n : ℕ) → all_finite n [] ≡ true
unfolding all_finite
all-finite-none n = refl

-- whether a record has the outcome
abbrev pub has_outcome : ℕ → ℕ → Bool → List ℕ → Bool
has_outcome n q v r = beq (record_bit n q r) v

module _ (n q : ℕ) (v : Bool) (scale : Float) where
  pub outcome-none : divided_side n scale q v [] ≡ []
  outcome-none = ap (all-divided n scale) (side-none n q v)

  module _ (r : List ℕ) (rs : List (List ℕ)) where
    -- the outcome's records, by whether the first has the outcome
    pub outcome-cons : divided_side n scale q v (r ∷ rs) ≡ choose (has_outcome n q v r) (divided n scale r ∷ divided_side n scale q v rs) (divided_side n scale q v rs)
    outcome-cons = ap (all-divided n scale) (side-some n q v r rs) ∙ go (has_outcome n q v r)
      where
        go : (t : Bool) → all-divided n scale (choose t (r ∷ side n q v rs) (side n q v rs)) ≡ choose t (divided n scale r ∷ divided_side n scale q v rs) (divided_side n scale q v rs)
        go true = refl
        go false = refl

    -- and whether they are finite
    pub fine-cons : length r ≡ n + 2
        → all_finite n (divided_side n scale q v (r ∷ rs)) ≡ (cond (has_outcome n q v r) (finite_c (over (amplitude_of n r) scale)) true && all_finite n (divided_side n scale q v rs))
    fine-cons l = ap (all_finite n) outcome-cons ∙ go (has_outcome n q v r)
      where
        rest : List (List ℕ)
        rest = divided_side n scale q v rs

        go : (t : Bool) → all_finite n (choose t (divided n scale r ∷ rest) rest) ≡ (cond t (finite_c (over (amplitude_of n r) scale)) true && all_finite n rest)
        go true = all-finite-cons n (divided n scale r) rest ∙ ap (λ (t : Bool). t && all_finite n rest) (divided-finite n scale r l)
        go false = refl

-- those of a part are whole, and finite
pub whole-left : (p : Records) → All (λ r. finite_record p.n r ≡ true) (records_left p) → All (Whole p.n) (records_left p)
whole-left p f = all_both (λ r. length r ≡ p.n + 2) (λ r. finite_record p.n r ≡ true) (records_left p) (records-whole p.n p.words.now) f

-- what is counted and tested, with those that are left, is all that there is
pub record Matched (n q : ℕ) (v : Bool) (scale : Float) (every left : List (List ℕ)) (count : ℕ) (fine : Bool) : Type 0 where
  pub counted : count + length (side n q v left) ≡ length (side n q v every)
  pub tested : (fine && all_finite n (divided_side n scale q v left)) ≡ all_finite n (divided_side n scale q v every)
  pub whole : All (Whole n) left

module _ (n q : ℕ) (v : Bool) (scale : Float) (every left : List (List ℕ)) (count : ℕ) (fine : Bool) (m : Matched n q v scale every left count fine) where
  -- with a record more seen the others are left
  pub matched-next : (r : List ℕ) (rs : List (List ℕ)) → left ≡ r ∷ rs
      → let t = has_outcome n q v r in Matched n q v scale every rs (count + cond t 1 0) (fine && cond t (finite_c (over (amplitude_of n r) scale)) true)
  matched-next r rs e =
      let w = subst (All (Whole n)) e m.whole in
      record {
        counted = omega (arith, m.counted, ap (λ (l : List (List ℕ)). length (side n q v l)) e ∙ side-count n q v r rs);
        tested = and_assoc fine _ _ ∙ ap (λ (t : Bool). fine && t) (sym (ap (λ (l : List (List ℕ)). all_finite n (divided_side n scale q v l)) e ∙ fine-cons n q v scale r rs w.0.0)) ∙ m.tested;
        whole = w.1;
      }

  pub matched-end : left ≡ [] → (count ≡ length (side n q v every)) × (fine ≡ all_finite n (divided_side n scale q v every))
  matched-end e = (
    omega (arith, m.counted, ap (λ (l : List (List ℕ)). length (side n q v l)) e ∙ ap length (side-none n q v)),
    sym (and-true fine) ∙ ap (λ (t : Bool). fine && t) (sym (ap (λ (l : List (List ℕ)). all_finite n (divided_side n scale q v l)) e ∙ ap (all_finite n) (outcome-none n q v scale) ∙ all-finite-none n)) ∙ m.tested,
  )

  -- no more is counted than there are
  pub matched-few : count ≤ length every
  matched-few = omega (arith, m.counted, side-fewer n q v every)
