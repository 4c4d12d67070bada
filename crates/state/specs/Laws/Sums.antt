-- The sums before a measurement are from +0 up: they may be infinite, and are never a NaN, so their
-- patterns may be written. For the crates above. Assumes nothing.
use Rattle.std.specs.Prelude.{◌≡◌, refl, ℕ, List, [], ◌∷◌, Bool, true, false, not, T, Float, Err, Ok, Result}
use Rattle.std.proofs.Common.{sym, ap, ◌∙◌, subst, arith}
use Rattle.std.specs.Float.Ieee.{is_nan, add, binary64}
use Rattle.amplitudes.specs.Amplitudes.{from_zero}
use Rattle.keys.specs.Lists.{All}
use Rattle.amplitudes.specs.Amplitudes.{norm2}
use Rattle.merge.specs.Records.{amplitude_of, finite_record}
use Rattle.merge.specs.Laws.{finite-amplitude, all-side, add-from-zero, from-zero-no-nan, running-from-zero}
use Rattle.merge.specs.Sorting.{side}
use Rattle.state.specs.declared.Squares.{Squares}
use Rattle.statevector.specs.declared.Refusal.{Refusal}
use Rattle.statevector.specs.declared.State.{State}
use Rattle.statevector.specs.Refusals.{first, if_fine, Tested}
use Rattle.statevector.specs.States.{front_of, part_of}
use Rattle.state.specs.Sums.{sum_from, plus_zero, sum_for, premeasure_in, premeasure_call, sums, premeasure_response}
use Rattle.statevector.specs.Tests.{state_tests, qubit_row}
use Rattle.statevector.specs.Laws.{Sound, fine-sound}
use Rattle.statevector.specs.Answers.{by}

-- a sum of squares of finite records, on top of one that is from +0
pub sum-from-zero : (n : ℕ) (acc : Float) (rs : List (List ℕ)) → T (from_zero acc) → All (λ r. finite_record n r ≡ true) rs → T (from_zero (sum_from n acc rs))
unfolding sum_from
sum-from-zero n acc [] z h = z
sum-from-zero n acc (r ∷ rs) z h =
    sum-from-zero n (add binary64 acc (norm2 (amplitude_of n r))) rs (running-from-zero acc (amplitude_of n r) z (subst T (sym (sym (finite-amplitude n r) ∙ h.0)) tt)) h.1

-- the sum for an outcome
pub sums-from-zero : (q : ℕ) (b : Bool) (s : State) (front : List ℕ) → Sound s front → T (from_zero (sum_for q b s front))
unfolding sum_for
sums-from-zero q b s front h =
    let over : (c : Bool) → T (from_zero (sum_from s.width plus_zero (side s.width q b (part_of c s front)))) = (λ c. sum-from-zero s.width plus_zero (side s.width q b (part_of c s front)) tt (all-side s.width q b (λ r. finite_record s.width r ≡ true) (part_of c s front) (h.finites c))) in
    add-from-zero (sum_from s.width plus_zero (side s.width q b (part_of false s front))) (sum_from s.width plus_zero (side s.width q b (part_of true s front))) (over false) (over true)

no-nans : (s : State) (q : ℕ) (front : List ℕ) (x : Squares) (t : Tested) → first (state_tests s front (qubit_row s q ∷ []) [] []) ≡ t
    → if_fine {A = Result Squares Refusal} t (Ok (record { clear = sum_for q false s front; set = sum_for q true s front })) (λ r. Err r) ≡ Ok x → T (not (is_nan x.clear)) × T (not (is_nan x.set))
no-nans s q front x (Ok tt) f e =
    let h = fine-sound s front (qubit_row s q ∷ []) [] [] f in
    let d : ◌≡◌ {A = Squares} (record { clear = sum_for q false s front; set = sum_for q true s front }) x = cc in
    let no_nan : (b : Bool) (z : Float) → sum_for q b s front ≡ z → T (not (is_nan z)) = (λ b z d. subst (λ (a : Float). T (not (is_nan a))) d (from-zero-no-nan (sum_for q b s front) (sums-from-zero q b s front h))) in
    (no_nan false x.clear (ap (λ (z : Squares). z.clear) d), no_nan true x.set (ap (λ (z : Squares). z.set) d))
no-nans s q front x (Err r) f e = let z : ◌≡◌ {A = ℕ} 0 1 = cc in absurd (omega arith)

-- what the call hands out is no NaN
pub sums-no-nan : (s : State) (q : ℕ) (left right : List ℕ) (x : Squares) → premeasure_call s q left right ≡ Ok x → T (not (is_nan x.clear)) × T (not (is_nan x.set))
unfolding premeasure_call premeasure_in
sums-no-nan s q left right x e = no-nans s q (front_of s.front left right) x _ refl e

-- ---- its number and values

pub premeasure-response : (s : State) (q : ℕ) (left right : List ℕ)
    → sums (premeasure_call s q left right) ≡ premeasure_response s q left right
unfolding premeasure_call premeasure_in
premeasure-response s q left right = go (first (state_tests s (front_of s.front left right) (qubit_row s q ∷ []) [] [])) (sum_for q false s (front_of s.front left right)) (sum_for q true s (front_of s.front left right))
  where
    go : (t : Tested) (a b : Float) → sums (if_fine t (Ok (record { clear = a; set = b })) (λ r. Err r)) ≡ by t (a, b)
    go (Ok tt) a b = refl
    go (Err r) a b = refl
