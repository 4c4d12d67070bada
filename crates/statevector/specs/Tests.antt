-- The tests of a state, one for each row of SPECIFICATION 10.1 that speaks of it, and the one list
-- of them that every call with a state uses. What the clauses of src/, and of the crates above,
-- cite. Assumes nothing.
use Rattle.std.specs.Ordering.{is_lt}
use Rattle.std.specs.Prelude.{◌≡◌, ℕ, ◌+◌, ◌*◌, List, [], ◌∷◌, ◌++◌, Bool, true, false, not, ◌&&◌, ◌||◌, leb, ltb, None, Option, Some}
use Rattle.std.specs.Bool.{beq}
use Rattle.keys.specs.Keys.{listed, order, same}
use Rattle.merge.specs.Records.{capacity, key_of, record_bit, finite_record}
use Rattle.statevector.specs.declared.Refusal.TheVariants as no
use Rattle.statevector.specs.declared.State.{State}
use Rattle.statevector.specs.Refusals.{Test, first, Tested}
use Rattle.statevector.specs.States.{front_of, part_of}

-- ---- on records

abbrev pub all : {A : Type 0} → (A → Bool) → List A → Bool
all t [] = true
all t (x ∷ xs) = t x && all t xs

-- each key is above the one before it
unfoldable pub rises : ℕ → List (List ℕ) → Bool
unfolding order
rises n [] = true
rises n (r ∷ []) = true
rises n (r ∷ s ∷ rs) = is_lt (order (key_of n r) (key_of n s)) && rises n (s ∷ rs)

-- some key of the first records is among the second
unfoldable pub meets : ℕ → List (List ℕ) → List (List ℕ) → Bool
unfolding same
meets n xs ys = not (all (λ (x : List ℕ). all (λ (y : List ℕ). not (same (key_of n x) (key_of n y))) ys) xs)

-- bit q of every key is b; every amplitude is finite
unfoldable pub all_on_side : ℕ → ℕ → Bool → List (List ℕ) → Bool
all_on_side n q b rs = all (λ (r : List ℕ). beq (record_bit n q r) b) rs

unfoldable pub all_finite : ℕ → List (List ℕ) → Bool
unfolding finite_record
all_finite n rs = all (finite_record n) rs

-- ---- the rows

-- 2, of a qubit that the call names
abbrev pub qubit_row : State → ℕ → Test
qubit_row s q = (leb (64 * s.width) q, no.Qubit)

-- 3
unfoldable pub too_many : State → List ℕ → Bool
unfolding capacity
too_many s front = ltb (capacity s.width front) (s.n0 + s.n1)

-- 4
unfoldable pub unordered : State → List ℕ → Bool
unfolding rises meets
unordered s front =
    not (rises s.width (part_of false s front)) || (not (rises s.width (part_of true s front)) || meets s.width (part_of false s front) (part_of true s front))

-- 5
abbrev pub side_off : Option ℕ → State → List ℕ → Bool
side_off None s front = false
side_off (Some q) s front = leb (64 * s.width) q || not (all_on_side s.width q false (part_of false s front) && all_on_side s.width q true (part_of true s front))

unfoldable pub wrong_side : State → List ℕ → Bool
unfolding all_on_side
wrong_side s front = side_off s.tag s front

-- 6, of the amplitudes
unfoldable pub not_finite : State → List ℕ → Bool
unfolding all_finite
not_finite s front = not (all_finite s.width (part_of false s front) && all_finite s.width (part_of true s front))

-- 6, of what else a call brings: a gate, a scale
abbrev pub finite_row : Bool → Test
finite_row is_finite = (not is_finite, no.NotFinite)

-- the rows that read no record: 1, what a call names, 3
unfoldable pub head_rows : State → List ℕ → List Test → List Test
unfolding listed too_many
head_rows s front named = (not (listed s.width), no.Width) ∷ (named ++ ((too_many s front, no.Count) ∷ []))

-- the rows that read the records
unfoldable pub record_rows : State → List ℕ → List Test
unfolding unordered wrong_side not_finite
record_rows s front =
    (unordered s front, no.Order) ∷ (wrong_side s front, no.WrongSide) ∷ (not_finite s front, no.NotFinite) ∷ []

-- the one table of the calls with a state. A call's own rows stand in three places: `named` after
-- 1, for the qubits that it names; `brought` after 6, for the floats that it brings; `rest` after
-- all rows that every state has
unfoldable pub state_tests : State → List ℕ → List Test → List Test → List Test → List Test
unfolding head_rows record_rows
state_tests s front named brought rest = head_rows s front named ++ (record_rows s front ++ (brought ++ rest))

-- that of a call that names a qubit and brings floats, with its own rows after those
abbrev pub qubit_tests : State → List ℕ → ℕ → Bool → List Test → List Test
qubit_tests s front q is_finite rest = state_tests s front (qubit_row s q ∷ []) (finite_row is_finite ∷ []) rest

-- a state is accepted when 1, 3, 4, 5 and 6 don't apply to it
pub record Accepted (s : State) (front : List ℕ) : Type 0 where
  pub width : listed s.width ≡ true
  pub counted : too_many s front ≡ false
  pub ordered : unordered s front ≡ false
  pub sided : wrong_side s front ≡ false
  pub finite : not_finite s front ≡ false

-- what a check says of a state and its stores
unfoldable pub check_call : State → List ℕ → List ℕ → Tested
unfolding state_tests first
check_call s left right = first (state_tests s (front_of s.front left right) [] [] [])
