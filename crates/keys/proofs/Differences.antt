-- Two keys of one width, with a bit left out of both: how they stand to each other and how many
-- pairs of words that takes. What the proof of `compare` uses. Assumes nothing.
use Rattle.std.specs.Prelude.{Option}
use mathlib.Core.Path.{◌≡◌, sym, ap, ◌∙◌}
use Prim.Native.Nat.{ℕ, ◌+◌, ◌<◌, ◌≤◌}
use native.Mathlib.Omega.{arith}
use native.Mathlib.Numerals.{add-one}
use mathlib.Core.List.{List}
use lib.ListN.{length, get_or, take, length-take}
use lib.Seq.{get_or-take, ext_get_or}
use Rattle.keys.specs.Keys.{Before, pairs_compared, without, word_without}
use Rattle.keys.specs.Laws.{length_without, word-of-without, pairs_first, pairs-same}

-- word k of a key without the left-out bit
abbrev pub word : Option ℕ → List ℕ → ℕ → ℕ
word o a k = word_without o k (get_or a k 0)

-- the words before k agree
abbrev pub Agree : Option ℕ → List ℕ → List ℕ → ℕ → Type 0
Agree o a b k = (m : ℕ) → m < k → word o a m ≡ word o b m

module _ (o : Option ℕ) (a b : List ℕ) (l : length b ≡ length a) where
  same_length : length (without o a) ≡ length (without o b)
  same_length = length_without o a ∙ sym (length_without o b ∙ l)

  agree_at : (k m : ℕ) → k ≤ length a → Agree o a b k → m < k → get_or (without o a) m 0 ≡ get_or (without o b) m 0
  agree_at k m h f i = word-of-without o a m (omega arith) ∙ f m i ∙ sym (word-of-without o b m (omega arith))

  -- all of them: the keys are the same
  pub level : Agree o a b (length a) → without o a ≡ without o b
  level f =
      let u = length_without o a in
      ext_get_or 0 (without o a) (without o b) same_length (λ m i. agree_at (length a) m (omega arith) f (omega arith))

  -- those at k decide
  pub below : (k : ℕ) → k < length a → Agree o a b k → word o a k < word o b k → Before (without o a) (without o b)
  below k h f s =
      let u = length_without o a in
      let v = length_without o b in
      record {
        place = k;
        inside = omega arith;
        prefix = ext_get_or 0 (take k (without o a)) (take k (without o b)) (simp length-take (omega arith))
            (λ m i. let t : m < k = (let e = length-take k (without o a) in omega arith) in get_or-take k (without o a) m 0 t ∙ agree_at k m (omega arith) f t ∙ sym (get_or-take k (without o b) m 0 t));
        smaller = rw (word-of-without o a k h, word-of-without o b k (omega arith)) s;
      }

  -- how many pairs were compared: all where none differs, else those up to k
  pub all-compared : Agree o a b (length a) → length a ≡ pairs_compared (without o a) (without o b)
  all-compared f = sym (ap (pairs_compared (without o a)) (sym (level f)) ∙ pairs-same (without o a) ∙ length_without o a)

  pub compared-to : (k : ℕ) → k < length a → Agree o a b k → (word o a k ≡ word o b k → ⊥) → k + 1 ≡ pairs_compared (without o a) (without o b)
  compared-to k h f d =
      let u = length_without o a in
      add-one k ∙ sym (pairs_first (without o a) (without o b) k same_length (omega arith) (λ m i. agree_at k m (omega arith) f i)
      (λ e. d (sym (word-of-without o a k h) ∙ e ∙ word-of-without o b k (omega arith))))
