-- `measurement::normalize` meets its contract. The invariant: the records that are left stand where
-- they did, and divided and written after those at the store's start they give what the contract
-- says. Assumes nothing.
use Prim.Native.Nat.{ℕ, ◌+◌, ◌*◌}
use mathlib.Core.Path.{◌≡◌, refl, sym, ap, ◌∙◌, subst}
use mathlib.Core.List.{List}
use mathlib.Core.Bool.{true, false}
use native.Mathlib.Nat.{add-zero, add_assoc, zero-mul}
use lib.Seq.{sets}
use Rattle.amplitudes.specs.Amplitudes.{near_one}
use Rattle.merge.specs.Records.{record_from, part, flat, finite_record}
use Rattle.measurement.specs.Measurement.{divided}
use Rattle.measurement.specs.Passes.{normalized}
use Rattle.statevector.specs.Laws.{finite-all}
use Rattle.measurement.proofs.Ways.{answered}
use Rattle.statevector.specs.Tests.{all_finite}
use Rattle.measurement.proofs.Matches.{all-divided}
use Rattle.measurement.proofs.Normalizing.{Settling, settled-near, settled-far, moved-words, settling-now, settling-next, settling-end}
use Rattle.measurement.proofs.normalize.Goals.{Else-is_near_one, In-loop-r}
use Rattle.measurement.proofs.normalize.Goals as goal

-- the scale is not near 1, and then `fine` says whether all is finite
far : (c : Else-is_near_one) → near_one c.args.scale ≡ false
far c = sym c.is_near_one.ensures ∙ c.if-is_near_one.false

tested : (c : Else-is_near_one) → let a = c.args in a.fine ≡ all_finite a.n (all-divided a.n a.scale (part a.n a.ws.now a.from (a.from + a.m)))
tested c = c.requires.fine_value (far c)

fine : (c : Else-is_near_one) → let a = c.args in a.fine ≡ all_finite a.n (normalized a.n a.scale (part a.n a.ws.now a.from (a.from + a.m)))
fine c =
    let a = c.args in
    tested c ∙ ap (all_finite a.n) (sym (settled-far a.n a.scale (part a.n a.ws.now a.from (a.from + a.m)) (far c)))

-- the record of a turn is finite, also divided
ready : (c : In-loop-r) → let a = c.args in
    let r = record_from a.n c.loop-r.ws ((a.from + c.loop-r.r) * (a.n + 2)) in (finite_record a.n r ≡ true) × (finite_record a.n (divided a.n a.scale r) ≡ true)
ready c =
    let a = c.args in
    settling-now a.n a.from a.m a.scale a.ws.now _ c.loop-r.ws (a.from + c.loop-r.r) c.loop-r.r c.loop-r.invariant c.loop-r-test.true c.requires.n_bound.1

pub returns-then-is_near_one-clause-value : goal.returns-then-is_near_one-clause-value
returns-then-is_near_one-clause-value c =
    let a = c.args in
    let P = part a.n a.ws.now a.from (a.from + a.m) in
    let e = settled-near a.n a.scale P (sym c.is_near_one.ensures ∙ c.if-is_near_one.true) in
    sym (ap answered (ap (all_finite a.n) e ∙ finite-all a.n P c.requires.all))

pub returns-then-is_near_one-clause-ws_after : goal.returns-then-is_near_one-clause-ws_after
returns-then-is_near_one-clause-ws_after c =
    let a = c.args in
    let P = part a.n a.ws.now a.from (a.from + a.m) in
    let e = settled-near a.n a.scale P (sym c.is_near_one.ensures ∙ c.if-is_near_one.true) in
    c.move_words.ensures ∙ moved-words a.n a.ws.now a.from a.m ∙ ap (λ (rs : List (List ℕ)). sets a.ws.now 0 (flat rs)) (sym e)

pub returns-then-not-fine-clause-value : goal.returns-then-not-fine-clause-value
returns-then-not-fine-clause-value c =
    ap answered (sym c.if-not-fine.true ∙ fine (goal.at.returns-then-not-fine-clause-value c).Else-is_near_one)

pub loop-r-init : goal.loop-r-init
loop-r-init c =
    let a = c.args in
    rw add-zero
    (record {
      index = sym (add-zero a.from);
      ends = rw zero-mul refl;
      after = refl;
      same = refl;
      finites = c.requires.all;
      fine = sym (tested (goal.at.loop-r-init c).Else-is_near_one) ∙ c.if-not-fine.false;
    })

pub normalize_record-requires-clause-x_value : goal.normalize_record-requires-clause-x_value
normalize_record-requires-clause-x_value c = (ready (goal.at.normalize_record-requires-clause-x_value c).In-loop-r).0

pub normalize_record-requires-clause-x_value_2 : goal.normalize_record-requires-clause-x_value_2
normalize_record-requires-clause-x_value_2 c = (ready (goal.at.normalize_record-requires-clause-x_value_2 c).In-loop-r).1

pub loop-r-preserved : goal.loop-r-preserved
loop-r-preserved c =
    let a = c.args in
    let r = c.loop-r.r in
    subst (λ (i : ℕ). Settling a.n a.from a.m a.scale a.ws.now (sets a.ws.now 0 (flat (all-divided a.n a.scale (part a.n a.ws.now a.from (a.from + a.m))))) c.normalize_record.new.ws i (r + 1)) (add_assoc a.from r 1)
    (settling-next a.n a.from a.m a.scale a.ws.now _ c.loop-r.ws (a.from + r) r c.loop-r.invariant c.loop-r-test.true c.requires.n_bound.1 _ c.normalize_record.ensures)

pub returns-clause-value : goal.returns-clause-value
returns-clause-value c =
    ap answered (sym c.if-not-fine.false ∙ fine (goal.at.returns-clause-value c).Else-is_near_one)

pub returns-clause-ws_after : goal.returns-clause-ws_after
returns-clause-ws_after c =
    let a = c.args in
    let P = part a.n a.ws.now a.from (a.from + a.m) in
    settling-end a.n a.from a.m a.scale a.ws.now _ c.loop-r.ws _ c.loop-r.r c.loop-r.invariant c.loop-r-test.false
    ∙ ap (λ (rs : List (List ℕ)). sets a.ws.now 0 (flat rs)) (sym (settled-far a.n a.scale P (far (goal.at.returns-clause-ws_after c).Else-is_near_one)))
