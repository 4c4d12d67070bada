-- `gates::repartition_first` meets its contract: the passes read the repartitioned records, of
-- which the gate makes the same. Assumes nothing.
use Prim.Native.Nat.{ℕ}
use mathlib.Core.Bool.{true, false}
use mathlib.Core.Path.{◌≡◌, refl, ◌∙◌}
use native.Mathlib.Omega.{arith}
use lib.Seq.{length-sets}
use Rattle.merge.specs.Records.{records}
use Rattle.merge.specs.Sorting.{repartitioned}
use Rattle.statevector.specs.States.{records_of}
use Rattle.gates.proofs.Performing.{parted-full}
use Rattle.gates.proofs.Parting.{parted-done, back-room, ones-few, reads0, reads1, now-parted, now-finite}
use Rattle.gates.proofs.repartition_first.Goals.{After-new-pairs}
use Rattle.gates.proofs.repartition_first.Goals as goal

pub returns-then-back-n : goal.returns-then-back-n
returns-then-back-n c =
    let a = c.args in
    parted-full a.s a.q a.g a.front.now a.back.now _ c.if-back-n.true

pub repartition-requires-clause-n_in_bounds : goal.repartition-requires-clause-n_in_bounds
repartition-requires-clause-n_in_bounds c =
    let h = c.requires.sound in
    h.0.room

pub repartition-requires-clause-n_in_bounds_2 : goal.repartition-requires-clause-n_in_bounds_2
repartition-requires-clause-n_in_bounds_2 c =
    let a = c.args in
    let h = c.requires.sound in
    back-room a.s a.front.now a.q h.0 h.1 a.back.now c.if-back-n.false

pub repartition-requires-clause-q_bound : goal.repartition-requires-clause-q_bound
repartition-requires-clause-q_bound c =
    let a = c.args in
    let h = c.requires.sound in
    omega (arith, h.1)

pub repartition-requires-clause-rising : goal.repartition-requires-clause-rising
repartition-requires-clause-rising c =
    let h = c.requires.sound in
    (h.0.rise false, h.0.rise true)

pub repartition-requires-clause-ones_value : goal.repartition-requires-clause-ones_value
repartition-requires-clause-ones_value c =
    c.requires.ones_value

pub overflow_sub-all : goal.overflow_sub-all
overflow_sub-all c =
    let a = c.args in
    ones-few a.s a.front.now a.q c.requires.sound.0 c.requires.sound.1 a.back.now c.if-back-n.false _ c.requires.ones_value

pub new-pairs-requires : goal.new-pairs-requires
new-pairs-requires c =
    let a = c.args in
    let h = c.requires.sound in
    record {
      n_in_bounds = (omega arith, rw c.repartition.ensures (rw (length-sets {A = ℕ}) (back-room a.s a.front.now a.q h.0 h.1 a.back.now c.if-back-n.false)));
      n_bound = omega (arith, h.0.few);
    }

-- the parts in the back store, as their pairs are made of them
module _ (c : After-new-pairs) where
  part0 : let a = c.args in records a.s.width c.new-pairs.result.lhs.now ≡ repartitioned a.s.width a.q false (records_of a.s a.front.now)
  part0 =
      let a = c.args in
      c.new-pairs.ensures.lhs_value ∙ reads0 a.s a.front.now a.q c.requires.sound.0 c.requires.sound.1 a.back.now c.if-back-n.false _ c.requires.ones_value _ c.repartition.ensures

  part1 : let a = c.args in records a.s.width c.new-pairs.result.rhs.now ≡ repartitioned a.s.width a.q true (records_of a.s a.front.now)
  part1 =
      let a = c.args in
      c.new-pairs.ensures.rhs_value ∙ reads1 a.s a.front.now a.q c.requires.sound.0 c.requires.sound.1 a.back.now c.if-back-n.false _ c.requires.ones_value _ c.repartition.ensures

pub test_and_write-requires : goal.test_and_write-requires
test_and_write-requires c =
    let a = c.args in
    let e = c.new-pairs.ensures in
    let w = (goal.at.test_and_write-requires c).After-new-pairs in
    rw (e.of.0, e.of.1, part0 w, part1 w)
    (record {
      parted = now-parted a.s a.front.now a.q c.requires.sound.0 c.requires.sound.1 a.back.now c.if-back-n.false _ c.requires.ones_value;
      n_value = refl;
      finite = λ e. now-finite a.s a.front.now a.q c.requires.sound.0 c.requires.sound.1 a.back.now c.if-back-n.false _ c.requires.ones_value a.g (c.requires.all_moderate e);
    })

pub returns : goal.returns
returns c =
    let a = c.args in
    let e = c.new-pairs.ensures in
    let w = (goal.at.returns c).After-new-pairs in
    parted-done a.s a.front.now a.q c.requires.sound.0 c.requires.sound.1 a.back.now c.if-back-n.false _ c.requires.ones_value a.g _ _ _ c.repartition.ensures
    (rw (e.of.0, e.of.1, part0 w, part1 w) at c.test_and_write.ensures)
