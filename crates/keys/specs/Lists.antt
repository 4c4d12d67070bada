-- What holds of every element of a list, and tests that passed or failed. Assumes nothing.
use Rattle.std.specs.Prelude.{◌≡◌, refl, List, [], ◌∷◌, ◌++◌, Bool, true, false, cond, not, ◌&&◌, ◌||◌, ℕ, zero, suc, ◌<◌, ◌≤◌, length, get_or, set, take, drop}
use Rattle.std.proofs.Common.{sym, true≢false, arith}
use Rattle.std.proofs.lemmas.Bool.{false≢true}

-- ---- every element
module _ {A : Type 0} where
  abbrev pub All : (A → Type 0) → List A → Type 0
  All P [] = Unit
  All P (x ∷ xs) = P x × All P xs

  pub all_map : {P Q : A → Type 0} (xs : List A) → ((x : A) → P x → Q x) → All P xs → All Q xs
  all_map [] f h = tt
  all_map (x ∷ xs) f h = (f x h.0, all_map xs f h.1)

  pub all_append : (P : A → Type 0) (xs ys : List A) → All P xs → All P ys → All P (xs ++ ys)
  all_append P [] ys h k = k
  all_append P (x ∷ xs) ys h k = (h.0, all_append P xs ys h.1 k)

  pub all_left : (P : A → Type 0) (xs ys : List A) → All P (xs ++ ys) → All P xs
  all_left P [] ys h = tt
  all_left P (x ∷ xs) ys h = (h.0, all_left P xs ys h.1)

  pub all_right : (P : A → Type 0) (xs ys : List A) → All P (xs ++ ys) → All P ys
  all_right P [] ys h = h
  all_right P (x ∷ xs) ys h = all_right P xs ys h.1

  pub all_both : (P Q : A → Type 0) (xs : List A) → All P xs → All Q xs → All (λ x. P x × Q x) xs
  all_both P Q [] h k = tt
  all_both P Q (x ∷ xs) h k = ((h.0, k.0), all_both P Q xs h.1 k.1)

  pub all_drop : (P : A → Type 0) (n : ℕ) (xs : List A) → All P xs → All P (drop n xs)
  all_drop P zero xs h = h
  all_drop P (suc n) [] h = tt
  all_drop P (suc n) (x ∷ xs) h = all_drop P n xs h.1

  pub all_take : (P : A → Type 0) (n : ℕ) (xs : List A) → All P xs → All P (take n xs)
  all_take P zero xs h = tt
  all_take P (suc n) [] h = tt
  all_take P (suc n) (x ∷ xs) h = (h.0, all_take P n xs h.1)

  pub all_set : (P : A → Type 0) (xs : List A) (i : ℕ) (v : A) → P v → All P xs → All P (set xs i v)
  all_set P [] i v p h = tt
  all_set P (x ∷ xs) zero v p h = (p, h.1)
  all_set P (x ∷ xs) (suc i) v p h = (h.0, all_set P xs i v p h.1)

  pub all-at : (P : A → Type 0) (xs : List A) (i : ℕ) (d : A) → i < length xs → All P xs → P (get_or xs i d)
  all-at P [] i d l h = absurd (omega arith)
  all-at P (x ∷ xs) zero d l h = h.0
  all-at P (x ∷ xs) (suc i) d l h = all-at P xs i d (omega arith) h.1

-- ---- tests
-- no bool is its own negation, and each counts for at most one
pub not-self : (b : Bool) → not b ≡ b → ⊥
not-self true e = false≢true e
not-self false e = true≢false e

pub cond-few : (b : Bool) → cond b 1 0 ≤ 1
cond-few true = omega arith
cond-few false = omega arith

pub and-true-l : (a b : Bool) → (a && b) ≡ true → a ≡ true
and-true-l true b e = refl
and-true-l false b e = e

pub and_true_r : (a b : Bool) → (a && b) ≡ true → b ≡ true
and_true_r true b e = e
and_true_r false b e = absurd (false≢true e)

pub or-false-l : (a b : Bool) → (a || b) ≡ false → a ≡ false
or-false-l true b e = e
or-false-l false b e = refl

pub or-false-r : (a b : Bool) → (a || b) ≡ false → b ≡ false
or-false-r true b e = absurd (true≢false e)
or-false-r false b e = e

-- two tests that hold together are the same
pub both_ways : (a b : Bool) → (a ≡ true → b ≡ true) → (b ≡ true → a ≡ true) → a ≡ b
both_ways true b f g = sym (f refl)
both_ways false true f g = g refl
both_ways false false f g = refl
