-- The numbers of SPECIFICATION 10.1, and "the first that applies, down the table". What the clauses
-- of src/, and of the crates above, cite. Assumes nothing.
use Rattle.std.specs.Prelude.{ℕ, List, [], ◌∷◌, Bool, true, false, Result, Err, Ok}
use Rattle.statevector.specs.declared.Refusal.{Refusal}
use Rattle.statevector.specs.declared.Refusal.TheVariants.{Step, Width, Qubit, Count, Order, WrongSide, NotFinite, Length, Overflow, Full}

-- the number of each refusal
abbrev pub number_of : Refusal → ℕ
number_of Step = 10
number_of Width = 1
number_of Qubit = 2
number_of Count = 3
number_of Order = 4
number_of WrongSide = 5
number_of NotFinite = 6
number_of Length = 7
number_of Overflow = 8
number_of Full = 9

-- a row of the table: whether it applies, and what it gives
abbrev pub Test : Type 0
Test = Bool × Refusal

-- what tests give: that none applies, or the first that does
abbrev pub Tested : Type 0
Tested = Result (Unit {0}) Refusal

abbrev pub applies : Bool → Refusal → Tested → Tested
applies true r rest = Err r
applies false r rest = rest

-- the first row that applies
unfoldable pub first : List Test → Tested
first [] = Ok tt
first (t ∷ ts) = applies t.0 t.1 (first ts)

-- fine: this; refused: that, with the refusal
abbrev pub if_fine : {A : Type 0} → Tested → A → (Refusal → A) → A
if_fine (Ok _) done refused = done
if_fine (Err r) done refused = refused r
