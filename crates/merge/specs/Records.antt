-- Records in lent words: n key words, then the bit patterns of re and im; a file holds them so too,
-- little-endian (SPECIFICATION 1.3). Record r begins at word r · (n + 2). What the clauses of src/
-- cite. Assumes nothing.
use Rattle.std.specs.Prelude.{ℕ, zero, suc, ◌+◌, ◌-◌, ◌*◌, ◌/◌, List, [], ◌∷◌, ◌++◌, map, Bool, cond, length, get_or, take, drop, None, Option, Some}
use Rattle.std.specs.Float.{binary64}
use Rattle.std.specs.Float.Ieee.{of_bits, to_bits}
use Rattle.amplitudes.specs.declared.Complex.{Complex}
use Rattle.amplitudes.specs.Amplitudes.{finite_c}
use Rattle.amplitudes.specs.Moderate.{moderate_c}
use Rattle.keys.specs.Keys.{bit_at, toggle, same}

-- ---- words

-- how many whole records a store has room for
unfoldable pub capacity : ℕ → List ℕ → ℕ
capacity n ws = length ws / (n + 2)

-- the words of record r
unfoldable pub record_at : ℕ → List ℕ → ℕ → List ℕ
record_at n ws r = take (n + 2) (drop (r * (n + 2)) ws)

-- the record that begins at a word
abbrev pub record_from : ℕ → List ℕ → ℕ → List ℕ
record_from n ws at = take (n + 2) (drop at ws)

-- c records from record i on
unfoldable pub counted : ℕ → List ℕ → ℕ → ℕ → List (List ℕ)
counted n ws i zero = []
counted n ws i (suc c) = record_at n ws i ∷ counted n ws (suc i) c

-- the records i .. e; part 0 of a front store is records 0 .. n0, part 1 records n0 .. n0 + n1
unfoldable pub part : ℕ → List ℕ → ℕ → ℕ → List (List ℕ)
unfolding counted
part n ws i e = counted n ws i (e - i)

-- the records that words hold whole
unfoldable pub records : ℕ → List ℕ → List (List ℕ)
unfolding part capacity
records n ws = part n ws 0 (capacity n ws)

-- the words of records one after the other
unfoldable pub flat : List (List ℕ) → List ℕ
flat [] = []
flat (r ∷ rs) = r ++ flat rs

-- ---- one record

-- its key, and bit q of that
abbrev pub key_of : ℕ → List ℕ → List ℕ
key_of n r = take n r

abbrev pub record_bit : ℕ → ℕ → List ℕ → Bool
record_bit n q r = bit_at q (key_of n r)

-- the key that a new entry takes from a record: with bit q turned over, or as it is
abbrev pub new_key : ℕ → ℕ → Bool → List ℕ → List ℕ
new_key n q t r = cond t (toggle q (key_of n r)) (key_of n r)

-- its amplitude
unfoldable pub amplitude_of : ℕ → List ℕ → Complex
unfolding of_bits
amplitude_of n r = record { re = of_bits binary64 (get_or r n 0); im = of_bits binary64 (get_or r (n + 1) 0) }

-- neither part is an infinity or a NaN
unfoldable pub finite_record : ℕ → List ℕ → Bool
unfolding amplitude_of
finite_record n r = finite_c (amplitude_of n r)

-- both parts are so small that no gate or division of moderate size makes them overflow
unfoldable pub moderate_record : ℕ → List ℕ → Bool
unfolding amplitude_of
moderate_record n r = moderate_c (amplitude_of n r)

-- ---- entries: what records say

pub record Entry : Type 0 where
  pub key : List ℕ
  pub amp : Complex

-- a record read as an entry, and an entry written as a record
unfoldable pub decode : ℕ → List ℕ → Entry
unfolding amplitude_of
decode n r = record { key = key_of n r; amp = amplitude_of n r }

unfoldable pub encode : Entry → List ℕ
unfolding to_bits
encode e = e.key ++ (to_bits binary64 e.amp.re ∷ to_bits binary64 e.amp.im ∷ [])

abbrev pub entries : ℕ → List (List ℕ) → List Entry
entries n rs = map (decode n) rs

-- the amplitude at a key, where there is one
unfoldable pub at : List ℕ → List Entry → Option Complex
unfolding same
at k [] = None
at k (e ∷ es) = let rest = at k es in cond (same k e.key) (Some e.amp) rest
