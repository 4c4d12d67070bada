-- What the clauses of src/ cite. A basis key is N words of 64 bits: word 0 weighs first, and qubit
-- q is bit q mod 64 of word q / 64 (SPECIFICATION 1.1, 1.2). A set of qubits and a mask are N words
-- too. Assumes nothing.
use Rattle.std.specs.declared.cmp.Ordering.{Ordering}
use Rattle.std.specs.declared.cmp.Ordering.TheVariants.{Less, Equal, Greater}
use Rattle.std.specs.Prelude.{ℕ, suc, ◌+◌, ◌-◌, ◌*◌, ◌/◌, ◌%◌, ◌^◌, ◌<◌, ◌≡◌, Bool, true, false, cond, ◌||◌, eqb, ltb, length, get_or, set, take, drop, replicate, None, Option, Some}
use mathlib.Core.List.{List, [], ◌∷◌, zip_with}
use Rattle.std.specs.Int.Bits.{bit_and, bit_xor}
use Rattle.keys.specs.Lists.{All}

-- ---- widths

-- the widths that a state may have
abbrev pub widths : List ℕ
widths = 1 ∷ 2 ∷ 6 ∷ 14 ∷ 22 ∷ 30 ∷ 46 ∷ 62 ∷ []

abbrev pub among : ℕ → List ℕ → Bool
among n [] = false
among n (w ∷ ws) = eqb n w || among n ws

unfoldable pub listed : ℕ → Bool
listed n = among n widths

-- ---- one word

-- bit p of a word, 0 or 1
abbrev pub bit_of : ℕ → ℕ → ℕ
bit_of p w = w / 2 ^ p % 2

-- the word with bit p clear, and with bit p turned over
abbrev pub clear_of : ℕ → ℕ → ℕ
clear_of p w = w - bit_of p w * 2 ^ p

abbrev pub toggle_of : ℕ → ℕ → ℕ
toggle_of p w = cond (eqb (bit_of p w) 1) (w - 2 ^ p) (w + 2 ^ p)

-- ---- one key

-- words of 64 bits, and a key of n of them
abbrev pub Words : List ℕ → Type 0
Words ws = All (λ w. w < 2 ^ 64) ws

abbrev pub IsKey : ℕ → List ℕ → Type 0
IsKey n k = (length k ≡ n) × Words k

-- the key of n words that begins at word i of a store
abbrev pub key_at : ℕ → List ℕ → ℕ → List ℕ
key_at n ws i = take n (drop i ws)

-- bit q of a key; the key with it clear; the key with it turned over
unfoldable pub bit_at : ℕ → List ℕ → Bool
bit_at q k = eqb (bit_of (q % 64) (get_or k (q / 64) 0)) 1

unfoldable pub clear : ℕ → List ℕ → List ℕ
clear q k = set k (q / 64) (clear_of (q % 64) (get_or k (q / 64) 0))

unfoldable pub toggle : ℕ → List ℕ → List ℕ
toggle q k = set k (q / 64) (toggle_of (q % 64) (get_or k (q / 64) 0))

-- the key of an index has it in word 0, and zeros; key 0 is that of index 0
unfoldable pub index_key : ℕ → ℕ → List ℕ
index_key n x = set (replicate n 0) 0 x

-- the qubits of a key that are in a mask (`bit_masked`), and a key with the qubits of a set turned
-- over (`bit-flipped`)
unfoldable pub masked : List ℕ → List ℕ → List ℕ
masked m k = zip_with bit_and k m

unfoldable pub flipped : List ℕ → List ℕ → List ℕ
flipped x k = zip_with bit_xor k x

-- a mask of all qubits of n words but q
unfoldable pub all_but : ℕ → ℕ → List ℕ
all_but n q = set (replicate n (2 ^ 64 - 1)) (q / 64) (2 ^ 64 - 1 - 2 ^ (q % 64))

-- ---- the order of keys

-- by one pair of words, and where these are equal by the rest
abbrev pub by_word : Bool → Bool → Ordering → Ordering
by_word true g rest = Less
by_word false true rest = Greater
by_word false false rest = rest

-- `Ord` of bitset.rs: the first pair of words that differs decides
unfoldable pub order : List ℕ → List ℕ → Ordering
order [] [] = Equal
order [] (y ∷ b) = Less
order (x ∷ a) [] = Greater
order (x ∷ a) (y ∷ b) = by_word (ltb x y) (ltb y x) (order a b)

-- a is before b: up to some place their words are the same, and there a's is smaller
pub record Before (a b : List ℕ) : Type 0 where
  pub place : ℕ
  pub inside : place < length a
  pub prefix : take place a ≡ take place b
  pub smaller : get_or a place 0 < get_or b place 0

-- what each answer of a comparison says of the keys
abbrev pub Says : Ordering → List ℕ → List ℕ → Type 0
Says Less a b = Before a b
Says Equal a b = a ≡ b
Says Greater a b = Before b a

abbrev pub is_equal : Ordering → Bool
is_equal Less = false
is_equal Equal = true
is_equal Greater = false

-- two keys are the same one
unfoldable pub same : List ℕ → List ℕ → Bool
unfolding order
same a b = is_equal (order a b)

-- the place of the first pair of words that differs; how many pairs there are where none does
unfoldable pub first_difference : List ℕ → List ℕ → ℕ
first_difference [] b = 0
first_difference (x ∷ a) [] = 0
first_difference (x ∷ a) (y ∷ b) = cond (eqb x y) (suc (first_difference a b)) 0

-- how many pairs of words two keys of one width take to compare: the place of the first pair that
-- differs, from 1, and how many pairs there are where none does
unfoldable pub pairs_compared : List ℕ → List ℕ → ℕ
unfolding first_difference
pairs_compared a b = cond (ltb (first_difference a b) (length a)) (suc (first_difference a b)) (length a)

-- a key without the bit that a comparison leaves out, if it leaves one out
abbrev pub without : Option ℕ → List ℕ → List ℕ
without None k = k
without (Some q) k = clear q k

-- word k of such a key
unfoldable pub word_without : Option ℕ → ℕ → ℕ → ℕ
word_without None k w = w
word_without (Some q) k w = cond (eqb k (q / 64)) (clear_of (q % 64) w) w
