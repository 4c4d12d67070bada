-- `keys::word_without` meets its contract. Assumes nothing.
use Prim.Native.Nat.{◌%◌}
use native.Mathlib.Omega.{arith}
use borrow.Author.Tests.{eq-eqb, ne_eqb}
use lib.Bits.{and_le_l}
use Rattle.keys.specs.Keys.{word_without}
use Rattle.keys.specs.Laws.{and-bit, one_shifted}
use Rattle.keys.proofs.word_without.Goals as goal

pub overflow_sub-result : goal.overflow_sub-result
overflow_sub-result c =
    and_le_l _ _

pub returns-in-Some : goal.returns-in-Some
unfolding word_without
returns-in-Some c =
    let p = c.in-Some.q % 64 in
    rw (c.in-Some.is, one_shifted p (omega arith), and-bit c.args.word p, eq-eqb _ _ c.if-k-q.true)

pub returns-in_default : goal.returns-in_default
unfolding word_without
returns-in_default c =
    rw (c.in-Some.is, ne_eqb _ _ c.if-k-q.false)

pub returns-in_default-2 : goal.returns-in_default-2
unfolding word_without
returns-in_default-2 c =
    rw c.in_default.is
