-- `measurement::copy_parts` meets its contract. Assumes nothing.
use Prim.Native.Nat.{◌+◌, ◌*◌}
use mathlib.Core.Path.{◌≡◌, sym, ap, ◌∙◌}
use mathlib.Core.Bool.{Bool, true, false}
use native.Mathlib.Omega.{arith}
use Rattle.statevector.specs.Laws.{QubitReady}
use Rattle.statevector.specs.Tests.{all_finite}
use Rattle.measurement.specs.declared.Seen.{Seen}
use Rattle.measurement.specs.Measurement.{kept_of}
use Rattle.measurement.proofs.Matches.{all-divided}
use Rattle.measurement.proofs.Ways.{ready}
use Rattle.measurement.proofs.Copying.{parts-fine, parts-written}
use Rattle.measurement.proofs.copy_parts.Goals.{Start}
use Rattle.measurement.proofs.copy_parts.Goals as goal

here : (c : Start) → QubitReady c.args.s c.args.front.now c.args.p.q
here c = ready c.args.s c.args.p c.args.front.now c.requires.passed

fine : (c : Start) (b : Bool) → let a = c.args in all_finite a.s.width (all-divided a.s.width a.p.scale (kept_of a.p.q a.p.v b a.s a.front.now)) ≡ true
fine c = parts-fine c.args.s c.args.p c.args.front.now (sym (ap (λ (z : Seen). z.fine) c.requires.seen_value) ∙ c.requires.fine)

pub of-part0-requires-clause-n_in_bounds : goal.of-part0-requires-clause-n_in_bounds
of-part0-requires-clause-n_in_bounds c = (omega arith, (here (goal.at.of-part0-requires-clause-n_in_bounds c).Start).room0)

pub of-part0-requires-clause-n_bound : goal.of-part0-requires-clause-n_bound
of-part0-requires-clause-n_bound c = omega (arith, (here (goal.at.of-part0-requires-clause-n_bound c).Start).sound.few)

pub overflow_add-s : goal.overflow_add-s
overflow_add-s c = omega (arith, (here (goal.at.overflow_add-s c).Start).few, c.well_formed)

pub of-part1-requires-clause-n_in_bounds : goal.of-part1-requires-clause-n_in_bounds
of-part1-requires-clause-n_in_bounds c = (omega arith, (here (goal.at.of-part1-requires-clause-n_in_bounds c).Start).sound.room)

pub do_measure_copy-requires-clause-q_bound : goal.do_measure_copy-requires-clause-q_bound
do_measure_copy-requires-clause-q_bound c =
    rw c.of-part0.ensures.n_value (here (goal.at.do_measure_copy-requires-clause-q_bound c).Start).inside

pub do_measure_copy-requires-clause-all : goal.do_measure_copy-requires-clause-all
do_measure_copy-requires-clause-all c =
    let p = c.of-part0.ensures in
    rw (p.part_value, p.n_value) ((here (goal.at.do_measure_copy-requires-clause-all c).Start).sound.finites false)

pub do_measure_copy-requires-clause-fine : goal.do_measure_copy-requires-clause-fine
do_measure_copy-requires-clause-fine c =
    let p = c.of-part0.ensures in
    rw (p.part_value, p.n_value) (fine (goal.at.do_measure_copy-requires-clause-fine c).Start false)

pub do_measure_copy-requires-2-clause-q_bound : goal.do_measure_copy-requires-2-clause-q_bound
do_measure_copy-requires-2-clause-q_bound c =
    rw c.of-part1.ensures.n_value (here (goal.at.do_measure_copy-requires-2-clause-q_bound c).Start).inside

pub do_measure_copy-requires-2-clause-all : goal.do_measure_copy-requires-2-clause-all
do_measure_copy-requires-2-clause-all c =
    let p = c.of-part1.ensures in
    rw (p.part_value, p.n_value) ((here (goal.at.do_measure_copy-requires-2-clause-all c).Start).sound.finites true)

pub do_measure_copy-requires-2-clause-fine : goal.do_measure_copy-requires-2-clause-fine
do_measure_copy-requires-2-clause-fine c =
    let p = c.of-part1.ensures in
    rw (p.part_value, p.n_value) (fine (goal.at.do_measure_copy-requires-2-clause-fine c).Start true)

pub returns : goal.returns
returns c =
    let a = c.args in
    let h = here (goal.at.returns c).Start in
    let p = c.of-part0.ensures in
    let r = c.of-part1.ensures in
    parts-written a.s a.p a.front.now h.room0 a.back.now _ _ _ (ap (λ (z : Seen). z.k0 * (a.s.width + 2)) c.requires.seen_value) (omega (arith, c.requires.room, c.do_measure_copy.auto))
    (rw (p.part_value, p.n_value) at c.do_measure_copy.ensures) (rw (r.part_value, r.n_value) at c.do_measure_copy-2.ensures)
