-- `measurement::do_measure_copy` meets its contract. The invariant: the outcome's records that are
-- left, divided and written after those that stand in the store, give what the contract says.
-- Assumes nothing.
use Rattle.std.proofs.Common.{◌≡◌, refl, ℕ, ◌+◌, ◌≤◌, true, false, Bool, length, zero-add, sym, ap, ◌∙◌}
use Rattle.std.specs.Bool.{beq}
use Rattle.amplitudes.specs.declared.Complex.{Complex}
use Rattle.amplitudes.specs.Amplitudes.{over, finite_c}
use Rattle.merge.specs.Records.{amplitude_of}
use Rattle.merge.specs.Laws.{record-width}
use Rattle.merge.specs.Sorting.{side}
use Rattle.merge.specs.Walks.{records_left}
use Rattle.measurement.proofs.Matches.{has_outcome, whole-left, divided-many, written}
use Rattle.measurement.proofs.Copying.{copying-whole, copying-other, copying-now, copying-next, copying-end}
use Rattle.measurement.proofs.do_measure_copy.Goals.{In-Some, After-bit, After-div}
use Rattle.measurement.proofs.do_measure_copy.Goals as goal

-- the next record's own width is that of all
width : (c : In-Some) → c.in-Some.r.n ≡ c.args.part.n
width c = record-width c.args.part.n c.in-Some.r (copying-whole _ _ _ _ _ _ _ _ c.loop-r.invariant _ _ c.in-Some.ensures.steps).0

-- whether it has the outcome
outcome : (c : After-bit) → c.in-Some.r.n ≡ c.args.part.n → (t : Bool) → beq c.bit.result c.args.v ≡ t → let a = c.args in has_outcome a.part.n a.q a.v c.in-Some.r.words.now ≡ t
outcome c w t f =
    let a = c.args in
    sym (ap (λ (b : Bool). beq b a.v) c.bit.ensures ∙ ap (λ (m : ℕ). has_outcome m a.q a.v c.in-Some.r.words.now) w) ∙ f

-- one that has it has its place, and is finite divided
now_of : (c : After-bit) → c.in-Some.r.n ≡ c.args.part.n → beq c.bit.result c.args.v ≡ true → let a = c.args in
    (c.loop-r.o + (a.part.n + 2) ≤ length c.loop-r.dst) × (finite_c (over (amplitude_of a.part.n c.in-Some.r.words.now) a.scale) ≡ true)
now_of c w f = copying-now _ _ _ _ _ _ _ _ c.loop-r.invariant _ _ c.in-Some.ensures.steps (outcome c w true f)

quotient : (c : After-div) → c.in-Some.r.n ≡ c.args.part.n → c.div.result ≡ over (amplitude_of c.args.part.n c.in-Some.r.words.now) c.args.scale
quotient c w =
    let a = c.args in
    c.div.ensures ∙ ap (λ (z : Complex). over z a.scale) (c.amplitude.ensures ∙ ap (λ (m : ℕ). amplitude_of m c.in-Some.r.words.now) w)

pub loop-r-init : goal.loop-r-init
loop-r-init c =
    let a = c.args in
    let many = divided-many a.part.n a.scale (side a.part.n a.q a.v (records_left a.part)) in
    rw c.into_iter-r-iterator.ensures.into_iter_gives
    (record {
      ends = refl;
      room = rw (many, zero-add) c.requires.room;
      whole = whole-left a.part c.requires.all;
      fine = c.requires.fine;
    })

pub put-requires-clause-n_in_bounds : goal.put-requires-clause-n_in_bounds
put-requires-clause-n_in_bounds c =
    let g = goal.at.put-requires-clause-n_in_bounds c in
    let w = width g.In-Some in
    rw w (now_of g.After-bit w c.if-bit-v.true).0

pub put-requires-clause-a_value : goal.put-requires-clause-a_value
put-requires-clause-a_value c =
    let g = goal.at.put-requires-clause-a_value c in
    let w = width g.In-Some in
    ap finite_c (quotient g.After-div w) ∙ (now_of g.After-bit w c.if-bit-v.true).1

pub loop-r-preserved-then-bit-v : goal.loop-r-preserved-then-bit-v
loop-r-preserved-then-bit-v c =
    let a = c.args in
    let g = goal.at.loop-r-preserved-then-bit-v c in
    let w = width g.In-Some in
    let r = c.in-Some.r.words.now in
    copying-next _ _ _ _ _ _ _ _ c.loop-r.invariant r _ c.in-Some.ensures.steps (outcome g.After-bit w true c.if-bit-v.true) _
    (rw w at c.put.ensures ∙ written a.part.n a.scale r c.loop-r.dst c.loop-r.o c.div.result (quotient g.After-div w))

pub loop-r-preserved : goal.loop-r-preserved
loop-r-preserved c =
    let g = goal.at.loop-r-preserved c in
    copying-other _ _ _ _ _ _ _ _ c.loop-r.invariant _ _ c.in-Some.ensures.steps (outcome g.After-bit (width g.In-Some) false c.if-bit-v.false)

pub returns : goal.returns
returns c = copying-end _ _ _ _ _ _ _ _ c.loop-r.invariant c.in-None.ensures.steps.0
