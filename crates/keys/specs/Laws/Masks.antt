-- The key of an index, and masks and sets of qubits word by word. For every crate above. Assumes
-- nothing.
use Rattle.std.specs.declared.cmp.Ordering.TheVariants.{Less}
use Rattle.std.specs.Prelude.{◌+◌, ◌≤◌, ◌≡◌, refl, ℕ, zero, suc, ◌-◌, ◌/◌, ◌%◌, ◌^◌, ◌<◌, false, ◌&&◌, eqb, length, get_or, set, replicate, take, drop, ◌++◌}
use Rattle.std.proofs.Common.{length-take, length-drop, sym, ap, ap₂, ◌∙◌, mod-lt, lt_of_le_of_lt, mod-eq_of_lt, arith, pow_pos, lit<, length-set, get_or-set_same, get_or-set_other}
use Rattle.std.proofs.Math.Nat.{div-eq_of_lt}
use mathlib.Core.List.{List, [], ◌∷◌, zip_with}
use Rattle.std.specs.Bool.{xor}
use Rattle.std.specs.Int.Bits.{bit_and, bit_xor}
use Rattle.std.proofs.lemmas.Nat.{xor_lt, and_le_l, and_mask}
use Rattle.std.proofs.lemmas.List.{length-replicate}
use borrow.Rule.Slice.PartMut.{put_mid}
use lib.Seq.{sets}
use Rattle.std.specs.List.{slice_range}
use Rattle.keys.specs.Stores.{part-back, sets-start}
use Rattle.keys.specs.Keys.{Words, IsKey, index_key, masked, flipped, all_but, clear_of, bit_at, clear, order}
use Rattle.keys.specs.Words.{mask-clears, and-bits, xor-bits, xor-twice}
use Rattle.keys.specs.Laws.Orders.{order-first}

-- ---- the key of an index

zero_word : (n k : ℕ) → ◌≡◌ {A = ℕ} (get_or (replicate n 0) k 0) 0
zero_word zero k = refl
zero_word (suc n) zero = refl
zero_word (suc n) (suc k) = zero_word n k

pub zero-words : (n : ℕ) → Words (replicate n 0)
zero-words zero = tt
zero-words (suc n) = (lit< tt, zero-words n)

pub length-index : (n x : ℕ) → length (index_key n x) ≡ n
unfolding index_key
length-index n x = simp (length-set, length-replicate)

pub index-first : (n x : ℕ) → 0 < n → get_or (index_key n x) 0 0 ≡ x
unfolding index_key
index-first n x h = get_or-set_same (replicate n 0) 0 x 0 (simp length-replicate h)

pub index-other : (n x k : ℕ) → 0 < k → ◌≡◌ {A = ℕ} (get_or (index_key n x) k 0) 0
unfolding index_key
index-other n x k h = get_or-set_other (replicate n 0) 0 k x 0 (λ e. omega arith) ∙ zero_word n k

-- key 0 has no bit set
pub index-zero : (n : ℕ) → index_key n 0 ≡ replicate n 0
unfolding index_key
index-zero zero = refl
index-zero (suc n) = refl

pub zero_bit : (n q : ℕ) → bit_at q (index_key n 0) ≡ false
unfolding bit_at
zero_bit n q = rw (index-zero n, zero_word n (q / 64)) (none (q % 64))
  where
    none : (p : ℕ) → eqb (0 / 2 ^ p % 2) 1 ≡ false
    none p = rw (div-eq_of_lt (pow_pos p))

-- the keys of indices go as the indices do
pub index-order : (n x y : ℕ) → 0 < n → x < y → order (index_key n x) (index_key n y) ≡ Less
unfolding index_key
index-order zero x y h l = absurd (omega arith)
index-order (suc n) x y h l = order-first x y (replicate n 0) (replicate n 0) l

-- ---- masks and sets, word by word: for later calls: controls, flips and Pauli strings

pub zip_length : (f : ℕ → ℕ → ℕ) (a b : List ℕ) → length a ≡ length b → length (zip_with f a b) ≡ length a
unfolding zip_with
zip_length f [] b l = refl
zip_length f (x ∷ a) [] l = absurd (omega arith)
zip_length f (x ∷ a) (y ∷ b) l = ap suc (zip_length f a b (omega arith))

pub zip_word : (f : ℕ → ℕ → ℕ) (a b : List ℕ) (k : ℕ) → k < length a → length a ≡ length b → get_or (zip_with f a b) k 0 ≡ f (get_or a k 0) (get_or b k 0)
unfolding zip_with
zip_word f [] b k h l = absurd (omega arith)
zip_word f (x ∷ a) [] k h l = absurd (omega arith)
zip_word f (x ∷ a) (y ∷ b) zero h l = refl
zip_word f (x ∷ a) (y ∷ b) (suc k) h l = zip_word f a b k (omega arith) (omega arith)

zip-words : (f : ℕ → ℕ → ℕ) (a b : List ℕ) → ((v w : ℕ) → v < 2 ^ 64 → w < 2 ^ 64 → f v w < 2 ^ 64) → Words a → Words b → Words (zip_with f a b)
unfolding zip_with
zip-words f [] b h p q = tt
zip-words f (x ∷ a) [] h p q = tt
zip-words f (x ∷ a) (y ∷ b) h p q = (h x y p.0 q.0, zip-words f a b h p.1 q.1)

pub masked-key : (n : ℕ) (m k : List ℕ) → IsKey n m → IsKey n k → IsKey n (masked m k)
unfolding masked
masked-key n m k h i = (zip_length bit_and k m (i.0 ∙ sym h.0) ∙ i.0, zip-words bit_and k m (λ v w a b. lt_of_le_of_lt (and_le_l v w) a) i.1 h.1)

pub flipped-key : (n : ℕ) (x k : List ℕ) → IsKey n x → IsKey n k → IsKey n (flipped x k)
unfolding flipped
flipped-key n x k h i = (zip_length bit_xor k x (i.0 ∙ sym h.0) ∙ i.0, zip-words bit_xor k x (λ v w a b. xor_lt 64 v w a b) i.1 h.1)

-- a qubit is in a masked key where it is in both; in a flipped one where it is in one of the two
pub bit_masked : (q : ℕ) (m k : List ℕ) → length k ≡ length m → q / 64 < length k → bit_at q (masked m k) ≡ (bit_at q k && bit_at q m)
unfolding bit_at masked
bit_masked q m k l h = rw (zip_word bit_and k m (q / 64) h l) (and-bits (get_or k (q / 64) 0) (get_or m (q / 64) 0) (q % 64))

pub bit-flipped : (q : ℕ) (x k : List ℕ) → length k ≡ length x → q / 64 < length k → bit_at q (flipped x k) ≡ xor (bit_at q k) (bit_at q x)
unfolding bit_at flipped
bit-flipped q x k l h = rw (zip_word bit_xor k x (q / 64) h l) (xor-bits (get_or k (q / 64) 0) (get_or x (q / 64) 0) (q % 64))

pub flipped-twice : (x k : List ℕ) → length k ≡ length x → flipped x (flipped x k) ≡ k
unfolding flipped zip_with
flipped-twice [] [] l = refl
flipped-twice [] (w ∷ k) l = absurd (omega arith)
flipped-twice (v ∷ x) [] l = absurd (omega arith)
flipped-twice (v ∷ x) (w ∷ k) l = ap₂ (λ (a : ℕ) (b : List ℕ). a ∷ b) (xor-twice w v) (flipped-twice x k (omega arith))

ones_and : (w : ℕ) → w < 2 ^ 64 → bit_and w (2 ^ 64 - 1) ≡ w
ones_and w h = and_mask w 64 ∙ mod-eq_of_lt h

mask-words : (n i p : ℕ) (k : List ℕ) → p < 64 → length k ≡ n → Words k
    → zip_with bit_and k (set (replicate n (2 ^ 64 - 1)) i (2 ^ 64 - 1 - 2 ^ p)) ≡ set k i (clear_of p (get_or k i 0))
unfolding zip_with
mask-words zero i p [] h l w = refl
mask-words zero i p (v ∷ k) h l w = absurd (omega arith)
mask-words (suc n) i p [] h l w = absurd (omega arith)
mask-words (suc n) zero p (v ∷ k) h l w = ap₂ (λ (a : ℕ) (b : List ℕ). a ∷ b) (mask-clears v p h w.0) (ones-words n k (omega arith) w.1)
  where
    ones-words : (n : ℕ) (k : List ℕ) → length k ≡ n → Words k → zip_with bit_and k (replicate n (2 ^ 64 - 1)) ≡ k
    ones-words zero [] l w = refl
    ones-words zero (v ∷ k) l w = absurd (omega arith)
    ones-words (suc n) [] l w = absurd (omega arith)
    ones-words (suc n) (v ∷ k) l w = ap₂ (λ (a : ℕ) (b : List ℕ). a ∷ b) (ones_and v w.0) (ones-words n k (omega arith) w.1)
mask-words (suc n) (suc i) p (v ∷ k) h l w = ap₂ (λ (a : ℕ) (b : List ℕ). a ∷ b) (ones_and v w.0) (mask-words n i p k h (omega arith) w.1)

-- a key under the mask of all qubits but q is the key with bit q clear
pub mask-key : (n q : ℕ) (k : List ℕ) → IsKey n k → masked (all_but n q) k ≡ clear q k
unfolding masked all_but clear
mask-key n q k h = mask-words n (q / 64) (q % 64) k (mod-lt q (lit< tt)) h.0 h.1

-- the key of an index in a part of a slice
pub index-back : (l p : List ℕ) (at n x : ℕ) → at + n ≤ length l → p ≡ index_key (length (slice_range l at (at + n))) x → put_mid at (at + n - at) l p ≡ sets l at (index_key n x)
index-back l p at n x h e =
    let z : length (slice_range l at (at + n)) ≡ n = simp (length-take, length-drop) (omega arith) in
    let f : p ≡ index_key n x = e ∙ ap (λ (m : ℕ). index_key m x) z in
    part-back l p at n h (ap length f ∙ length-index n x) ∙ ap (sets l at) f

-- and over the start of a slice
pub index-front : (l p : List ℕ) (n x : ℕ) → n ≤ length l → p ≡ index_key (length (take n l)) x → p ++ drop n l ≡ sets l 0 (index_key n x)
index-front l p n x h e =
    let z : length (take n l) ≡ n = simp length-take (omega arith) in
    let i = length-index n x in
    ap (λ (k : List ℕ). k ++ drop n l) (e ∙ ap (λ (m : ℕ). index_key m x) z) ∙ ap (λ (k : ℕ). index_key n x ++ drop k l) (sym i)
    ∙ sym (sets-start (index_key n x) l (omega arith))
