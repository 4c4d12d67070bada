-- The laws of a comparison of two keys that the crates above may cite: what its answer says, that
-- it is refused where a row of its table applies and nowhere else, and what the answer is where
-- none does. Assumes nothing.
use Rattle.std.specs.declared.cmp.Ordering.{Ordering}
use Rattle.std.specs.declared.cmp.Ordering.TheVariants.{Less, Greater}
use Rattle.std.specs.Prelude.{◌≡◌, refl, ℕ, ◌≤◌, Bool, true, false, not, List, [], ◌∷◌, eqb, length, Err, None, Ok, Option, Some}
use Rattle.std.proofs.Common.{sym, ap, ap₂, ◌∙◌, arith, eq-eqb, eqb-true}
use Rattle.std.proofs.lemmas.Bool.{not-false}
use Rattle.keys.specs.declared.Compared.{Compared}
use Rattle.keys.specs.Keys.{listed, clear, order, first_difference, pairs_compared, without}
use Rattle.merge.specs.Laws.{width-range, reverse, order-reverse, length_without, pairs-range, pairs-comm}
use Rattle.statevector.specs.declared.Refusal.{Refusal}
use Rattle.statevector.specs.declared.Refusal.TheVariants as no
use Rattle.statevector.specs.Refusals.{Test, first, if_fine, Tested}
use Rattle.statevector.specs.Answers.{by}
use Rattle.statevector.specs.Laws.{first-none, fine-first, first_fine, first-here, first-later}
use Rattle.comparison.specs.Comparison.{outside, compare_tests, compared, compare_call, comparison-response, compare_response}

pub compare-response : (n : ℕ) (out : Option ℕ) (a b : List ℕ) → comparison-response (compare_call n out a b) ≡ compare_response n out a b
unfolding compare_call
compare-response n out a b = go (first (compare_tests n out a b)) (compared out a b)
  where
    go : (t : Tested) (c : Compared) → comparison-response (if_fine t (Ok c) (λ r. Err r)) ≡ by t c
    go (Ok tt) c = refl
    go (Err r) c = refl

-- the first row that applies
pub compare-width : (n : ℕ) (out : Option ℕ) (a b : List ℕ) → listed n ≡ false → first (compare_tests n out a b) ≡ Err no.Width
unfolding compare_tests
compare-width n out a b e = first-here (not (listed n)) no.Width _ (ap not e)

pub compare-qubit : (n : ℕ) (out : Option ℕ) (a b : List ℕ) → listed n ≡ true → outside n out ≡ true → first (compare_tests n out a b) ≡ Err no.Qubit
unfolding compare_tests
compare-qubit n out a b l e = first-later (not (listed n)) no.Width _ (ap not l) ∙ first-here (outside n out) no.Qubit _ e

pub compare-length : (n : ℕ) (out : Option ℕ) (a b : List ℕ) → listed n ≡ true → outside n out ≡ false → (length a ≡ n → length b ≡ n → ⊥) → first (compare_tests n out a b) ≡ Err no.Length
unfolding compare_tests
compare-length n out a b l o f =
    first-later (not (listed n)) no.Width _ (ap not l) ∙ (first-later (outside n out) no.Qubit _ o ∙ go (eqb (length a) n) (eqb (length b) n) refl refl)
  where
    go : (x y : Bool) → eqb (length a) n ≡ x → eqb (length b) n ≡ y → first ((not x, no.Length) ∷ (not y, no.Length) ∷ []) ≡ Err no.Length
    go false y d e = first-here true no.Length _ refl
    go true false d e = first-later false no.Length _ refl ∙ first-here true no.Length _ refl
    go true true d e = absurd (f (eqb-true (length a) n d) (eqb-true (length b) n e))

-- all rows, where a key is not N words
abbrev pub wrong_key_rows : ℕ → Option ℕ → List Test
wrong_key_rows n out = (not (listed n), no.Width) ∷ (outside n out, no.Qubit) ∷ (true, no.Length) ∷ []

pub compare-wrong-key : (n : ℕ) (out : Option ℕ) (a b : List ℕ) → (listed n ≡ true → length a ≡ n → length b ≡ n → ⊥) → first (compare_tests n out a b) ≡ first (wrong_key_rows n out)
compare-wrong-key n out a b f = go (listed n) (outside n out) refl refl
  where
    go : (l o : Bool) → listed n ≡ l → outside n out ≡ o → first (compare_tests n out a b) ≡ first ((not l, no.Width) ∷ (o, no.Qubit) ∷ (true, no.Length) ∷ [])
    go false o d e = compare-width n out a b d ∙ sym (first-here true no.Width _ refl)
    go true true d e = compare-qubit n out a b d e ∙ sym (first-later false no.Width _ refl ∙ first-here true no.Qubit _ refl)
    go true false d e = compare-length n out a b d e (f d) ∙ sym (first-later false no.Width _ refl ∙ (first-later false no.Qubit _ refl ∙ first-here true no.Length _ refl))

-- none applies to two keys of a listed width and a qubit of theirs, or none
pub record TwoKeys (n : ℕ) (out : Option ℕ) (a b : List ℕ) : Type 0 where
  pub width : listed n ≡ true
  pub inside : outside n out ≡ false
  pub first-length : length a ≡ n
  pub second-length : length b ≡ n

pub compare-fine : (n : ℕ) (out : Option ℕ) (a b : List ℕ) → TwoKeys n out a b → first (compare_tests n out a b) ≡ Ok tt
unfolding compare_tests
compare-fine n out a b k =
    first_fine (not (listed n)) no.Width _ (ap not k.width) (first_fine (outside n out) no.Qubit _ k.inside
    (first_fine (not (eqb (length a) n)) no.Length _ (ap not (eq-eqb (length a) n k.first-length))
    (first_fine (not (eqb (length b) n)) no.Length [] (ap not (eq-eqb (length b) n k.second-length)) first-none)))

pub fine-compare : (n : ℕ) (out : Option ℕ) (a b : List ℕ) → first (compare_tests n out a b) ≡ Ok tt → TwoKeys n out a b
unfolding compare_tests
fine-compare n out a b e =
    let w = fine-first (not (listed n)) no.Width _ e in
    let q = fine-first (outside n out) no.Qubit _ w.1 in
    let x = fine-first (not (eqb (length a) n)) no.Length _ q.1 in
    let y = fine-first (not (eqb (length b) n)) no.Length [] x.1 in
    record {
      width = not-false (listed n) w.0;
      inside = q.0;
      first-length = eqb-true (length a) n (not-false (eqb (length a) n) x.0);
      second-length = eqb-true (length b) n (not-false (eqb (length b) n) y.0);
    }

-- then the order is told and how many pairs were compared; else why not
pub compare-done : (n : ℕ) (out : Option ℕ) (a b : List ℕ) → TwoKeys n out a b → compare_call n out a b ≡ Ok (compared out a b)
unfolding compare_call
compare-done n out a b k = ap (λ (t : Tested). if_fine t (Ok (compared out a b)) (λ r. Err r)) (compare-fine n out a b k)

pub compare-refused : (n : ℕ) (out : Option ℕ) (a b : List ℕ) (r : Refusal) → first (compare_tests n out a b) ≡ Err r → compare_call n out a b ≡ Err r
unfolding compare_call
compare-refused n out a b r e = ap (λ (t : Tested). if_fine t (Ok (compared out a b)) (λ r. Err r)) e

-- a comparison that was done had two such keys, and its answer is theirs
pub compare-accepted : (n : ℕ) (out : Option ℕ) (a b : List ℕ) (c : Compared) → compare_call n out a b ≡ Ok c → TwoKeys n out a b × (c ≡ compared out a b)
unfolding compare_call
compare-accepted n out a b c e = go (first (compare_tests n out a b)) refl e
  where
    go : (t : Tested) → first (compare_tests n out a b) ≡ t → if_fine t (Ok (compared out a b)) (λ r. Err r) ≡ Ok c → TwoKeys n out a b × (c ≡ compared out a b)
    go (Ok tt) f e = (fine-compare n out a b f, cc)
    go (Err r) f e = let z : ◌≡◌ {A = ℕ} 0 1 = cc in absurd (omega arith)

-- from 1 to N pairs
pub compare-pairs : (n : ℕ) (out : Option ℕ) (a b : List ℕ) → TwoKeys n out a b → (1 ≤ (compared out a b).pairs) × ((compared out a b).pairs ≤ n)
unfolding compared
compare-pairs n out a b k =
    let l : length (without out a) ≡ n = length_without out a ∙ k.first-length in
    let r = pairs-range (without out a) (without out b) (let w = width-range n k.width in omega arith) in
    (r.0, omega arith)

-- with the keys exchanged: the other way round, after as many pairs
pub compare-exchanged : (n : ℕ) (out : Option ℕ) (a b : List ℕ) → TwoKeys n out a b → compared out b a ≡ record { order = reverse (compared out a b).order; pairs = (compared out a b).pairs }
unfolding compared
compare-exchanged n out a b k =
    ap₂ (λ (o : Ordering) (c : ℕ). record { order = o; pairs = c }) (order-reverse (without out a) (without out b))
    (pairs-comm (without out b) (without out a) (length_without out b ∙ k.second-length ∙ sym k.first-length ∙ sym (length_without out a)))

-- width 2, (3, 2) and (1, 9) without qubit 1: the first words differ in it alone, the second decide;
-- with it the first words decide
pub compare-example : compare_call 2 (Some 1) (3 ∷ 2 ∷ []) (1 ∷ 9 ∷ []) ≡ Ok (record { order = Less; pairs = 2 })
unfolding compare_call compare_tests compared first order pairs_compared first_difference clear listed
compare-example = refl

pub compare-example-whole : compare_call 2 None (3 ∷ 2 ∷ []) (1 ∷ 9 ∷ []) ≡ Ok (record { order = Greater; pairs = 1 })
unfolding compare_call compare_tests compared first order pairs_compared first_difference listed
compare-example-whole = refl
