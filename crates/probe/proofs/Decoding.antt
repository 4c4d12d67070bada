-- What stands in the arrays that a call on bytes decodes into. For the functions of
-- src/buffers.rt. Assumes nothing.
use mathlib.Core.Path.{◌≡◌, refl, sym, ◌∙◌}
use Prim.Native.Nat.{ℕ, suc, ◌+◌, ◌*◌, ◌/◌, ◌%◌, ◌<◌, ◌≤◌}
use native.Mathlib.Omega.{arith}
use mathlib.Core.List.{List, [], ◌∷◌, ◌++◌, append_assoc}
use mathlib.Core.Bool.{Bool, true, false, cond}
use borrow.Author.Tests.{eq-eqb, ne_eqb}
use lib.ListN.{length, take, drop, replicate, length-append, length-replicate, get_or-replicate}
use lib.Seq.{sets, take_at, drop-cons}
use Rattle.keys.specs.Laws.{sets-start}
use Rattle.text.specs.Words.{file_words}
use Rattle.text.specs.Laws.{file-words-length}
use Rattle.probe.specs.Files.{whole_words, exact_words, list_words}

-- ---- an array of zeros with the words of bs at its start

module _ (bs : List ℕ) (short : length bs ≤ 65536) where
  abbrev zeros : List ℕ
  zeros = replicate 8192 0

  abbrev array : List ℕ
  array = sets zeros 0 (file_words bs)

  split : array ≡ file_words bs ++ drop (length (file_words bs)) zeros
  split = sets-start (file_words bs) zeros (omega (arith, file-words-length bs, length-replicate {A = ℕ} 8192 0))

  -- a store: its whole words
  pub whole-front : take (length bs / 8) array ≡ file_words bs
  whole-front = rw split (take_at (file_words bs) (drop (length (file_words bs)) zeros) (length bs / 8) (file-words-length bs))

  -- with stray bytes there is room for a word more, which is zero
  split-more : (length bs % 8 ≡ 0 → ⊥) → array ≡ (file_words bs ++ (0 ∷ [])) ++ drop (suc (length (file_words bs))) zeros
  split-more h =
      let k = length (file_words bs) in
      let r : k < 8192 = omega (arith, file-words-length bs) in
      let z : drop k zeros ≡ 0 ∷ drop (suc k) zeros = drop-cons zeros k 0 (rw (length-replicate {A = ℕ} 8192 0) r) ∙ rw (get_or-replicate {A = ℕ} 8192 k 0 0 r) in
      split ∙ rw z (sym (append_assoc (file_words bs) (0 ∷ []) (drop (suc k) zeros)))

  pub exact-all : length bs % 8 ≡ 0 → file_words bs ≡ exact_words bs
  unfolding exact_words
  exact-all h = rw (eq-eqb (length bs % 8) 0 h) refl

  pub exact-none : (length bs % 8 ≡ 0 → ⊥) → take 0 array ≡ exact_words bs
  unfolding exact_words
  exact-none h = rw (ne_eqb (length bs % 8) 0 h) refl

  pub list-more : (k : ℕ) → (length bs % 8 ≡ 0 → ⊥) → length bs / 8 % k ≡ 0 → take (length bs / 8 + 1) array ≡ list_words k bs
  unfolding list_words
  list-more k h l =
      rw (ne_eqb (length bs % 8) 0 h, eq-eqb (length bs / 8 % k) 0 l, split-more h)
      (take_at (file_words bs ++ (0 ∷ [])) _ (length bs / 8 + 1) (simp length-append (omega (arith, file-words-length bs))))

  pub list-whole : (k : ℕ) → length bs % 8 ≡ 0 → file_words bs ≡ list_words k bs
  unfolding list_words
  list-whole k h = rw (eq-eqb (length bs % 8) 0 h) refl

  pub list-odd : (k : ℕ) → (length bs % 8 ≡ 0 → ⊥) → (length bs / 8 % k ≡ 0 → ⊥) → file_words bs ≡ list_words k bs
  unfolding list_words
  list-odd k h l = rw (ne_eqb (length bs % 8) 0 h, ne_eqb (length bs / 8 % k) 0 l) refl

pub ruleset decoding = (whole-front, exact-all, exact-none, list-more, list-whole, list-odd)

-- ---- what is lent is no longer than the bytes that it is written back to

pub whole-inside : (bs : List ℕ) → 8 * length (file_words bs) ≤ length bs
whole-inside bs = omega (arith, file-words-length bs)

choice-inside : (b : Bool) (ws : List ℕ) (m : ℕ) → 8 * length ws ≤ m → 8 * length (cond b ws []) ≤ m
choice-inside true ws m h = h
choice-inside false ws m h = omega arith

pub exact-inside : (bs : List ℕ) → 8 * length (exact_words bs) ≤ length bs
unfolding exact_words
exact-inside bs = choice-inside (whole_words bs) (file_words bs) (length bs) (whole-inside bs)

-- as many words as were lent
pub as-many : (m k b : ℕ) → m ≡ k → 8 * k ≤ b → 8 * m ≤ b
as-many m k b e h = omega arith
