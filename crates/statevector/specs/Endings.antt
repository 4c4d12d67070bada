-- How a call that may write ends: its answer, and what its stores hold. What the clauses of src/, and
-- of the crates above, cite. Assumes nothing.
use Rattle.std.specs.Prelude.{ℕ, List}
use Rattle.statevector.specs.declared.Side.{Side}
use Rattle.statevector.specs.States.{front_of, back_of}

-- by front and back store
pub record FrontEnding (A : Type 0) : Type 0 where
  pub answer : A
  pub front : List ℕ
  pub back : List ℕ

-- by left and right store
pub record Ending (A : Type 0) : Type 0 where
  pub answer : A
  pub left : List ℕ
  pub right : List ℕ

abbrev pub by_front : {A : Type 0} → Side → FrontEnding A → Ending A
by_front m o = record { answer = o.answer; left = front_of m o.front o.back; right = back_of m o.front o.back }
