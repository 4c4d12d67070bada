-- A key under a mask and a key with a set turned over, word by word. Assumes nothing.
use mathlib.Core.Path.{◌≡◌, sym, ap, ◌∙◌}
use Prim.Native.Nat.{ℕ, ◌<◌}
use native.Mathlib.Omega.{arith}
use mathlib.Core.List.{List, zip_with}
use mathlib.Core.Bool.{true, false}
use lib.Bits.{bit_and, bit_xor}
use lib.ListN.{length, get_or}
use lib.Seq.{ext_get_or}
use Rattle.keys.specs.Keys.{masked, flipped, same}
use Rattle.keys.specs.Laws.{zip_length, zip_word, same-is, not_same}

module _ (m key : List ℕ) (l : length m ≡ length key) where
  -- words that are turned over one by one
  pub turned : (v : List ℕ) → length v ≡ length key → ((k : ℕ) → k < length key → get_or v k 0 ≡ bit_xor (get_or key k 0) (get_or m k 0)) → v ≡ flipped m key
  unfolding flipped
  turned v n f =
      let z = zip_length bit_xor key m (sym l) in
      ext_get_or 0 v (zip_with bit_xor key m) (n ∙ sym z) (λ k h. f k (omega arith) ∙ sym (zip_word bit_xor key m k (omega arith) (sym l)))

  module _ (v : List ℕ) (n : length v ≡ length key) where
    pub agree : ((k : ℕ) → k < length key → bit_and (get_or key k 0) (get_or m k 0) ≡ get_or v k 0) → same (masked m key) v ≡ true
    unfolding masked
    agree f =
        let z = zip_length bit_and key m (sym l) in
        same-is (zip_with bit_and key m) v (ext_get_or 0 (zip_with bit_and key m) v (z ∙ sym n) (λ k h. zip_word bit_and key m k (omega arith) (sym l) ∙ f k (omega arith)))

    pub disagree : (k : ℕ) → k < length key → (bit_and (get_or key k 0) (get_or m k 0) ≡ get_or v k 0 → ⊥) → same (masked m key) v ≡ false
    unfolding masked
    disagree k h f =
        not_same (zip_with bit_and key m) v (λ e. f (sym (zip_word bit_and key m k h (sym l)) ∙ ap (λ (x : List ℕ). get_or x k 0) e))
