-- A call's two clauses: the second, in numbers (SPECIFICATION 10.1) and values, follows from the
-- first, the equation with its definition; and what a check says. For the proofs of the calls, and
-- the layer above. Assumes nothing.
use Rattle.std.specs.Prelude.{◌≡◌, refl, ℕ, List, [], Err, Ok}
use Rattle.std.proofs.Common.{ap, ◌∙◌}
use Rattle.statevector.specs.declared.State.{State}
use Rattle.statevector.specs.Refusals.{first, Tested}
use Rattle.statevector.specs.States.{front_of}
use Rattle.statevector.specs.Tests.{state_tests, check_call}
use Rattle.statevector.specs.Answers.{tested, by, check_response}

-- what an answer says, where it is that of a definition and the definition's is known
pub both-clauses : {A B : Type 0} {x y : A} {told : B} (f : A → B) → x ≡ y → f y ≡ told → (x ≡ y) × (f x ≡ told)
both-clauses f e h = (e, ap f e ∙ h)

pub check-response : (s : State) (left right : List ℕ) → tested (check_call s left right) ≡ check_response s left right
unfolding check_call
check-response s left right = go (first (state_tests s (front_of s.front left right) [] [] []))
  where
    go : (t : Tested) → tested t ≡ by t tt
    go (Ok _) = refl
    go (Err r) = refl
