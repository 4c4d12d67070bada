-- `gates::is_finite_new` meets its contract, case by case of the pair merge's answer. Assumes
-- nothing.
use Rattle.gates.specs.Passes.{finite_of}
use Rattle.gates.proofs.Newly.{lhs-finite, rhs-finite, both-finite}
use Rattle.gates.proofs.is_finite_new.Goals as goal

pub returns-in-Lhs : goal.returns-in-Lhs
returns-in-Lhs c =
    rw c.in-Lhs.is (lhs-finite _ _ _ _ c.apply-p.ensures c.are_finite.ensures)

pub returns-in-Rhs : goal.returns-in-Rhs
returns-in-Rhs c =
    rw c.in-Rhs.is (rhs-finite _ _ _ _ c.apply-p-in-Rhs.ensures c.are_finite-in-Rhs.ensures)

pub returns-in-Both : goal.returns-in-Both
returns-in-Both c =
    rw c.in-Both.is (both-finite _ _ _ _ _ c.combine-p.ensures c.are_finite-in-Both.ensures)

pub returns-in-End : goal.returns-in-End
unfolding finite_of
returns-in-End c =
    rw c.in-End.is
