-- What an answer says in numbers (SPECIFICATION 10.1) and values, and by which row of a call's
-- table. Each call's own values stand beside its definition; the second clause of a call cites
-- them. Assumes nothing.
use Rattle.std.specs.Prelude.{ℕ, List, [], Err, None, Ok, Option, Result, Some}
use Rattle.statevector.specs.declared.Refusal.{Refusal}
use Rattle.statevector.specs.declared.State.{State}
use Rattle.statevector.specs.Refusals.{Test, first, number_of, if_fine, Tested}
use Rattle.statevector.specs.States.{front_of}
use Rattle.statevector.specs.Tests.{state_tests}

-- the number of SPECIFICATION 10.1, 0 where the call was done, and the values that it then gives
pub record Response (A : Type 0) : Type 0 where
  pub number : ℕ
  pub values : Option A

abbrev pub accepts : {A : Type 0} → A → Response A
accepts a = record { number = 0; values = Some a }

abbrev pub refuses : {A : Type 0} → Refusal → Response A
refuses r = record { number = number_of r; values = None }

abbrev pub tested : Tested → Response Unit
tested (Ok _) = accepts tt
tested (Err r) = refuses r

abbrev pub made-response : Result State Refusal → Response State
made-response (Ok s) = accepts s
made-response (Err r) = refuses r

-- ---- by the table: the first row that applies

abbrev pub by : {A : Type 0} → Tested → A → Response A
by t a = if_fine t (accepts a) (λ r. refuses r)

abbrev pub by_table : {A : Type 0} → List Test → A → Response A
by_table ts a = by (first ts) a

-- a check gives no values
abbrev pub check_response : State → List ℕ → List ℕ → Response Unit
check_response s left right = by_table (state_tests s (front_of s.front left right) [] [] []) tt
