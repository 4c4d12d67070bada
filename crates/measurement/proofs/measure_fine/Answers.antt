-- `measurement::measure_fine` meets its contract. Assumes nothing.
use mathlib.Core.Path.{◌≡◌, sym, ap, ◌∙◌, refl}
use Prim.Native.Nat.{◌+◌}
use native.Mathlib.Omega.{arith}
use Rattle.std.proofs.lemmas.Result.{err_from_is_err_and}
use Rattle.statevector.specs.Laws.{tag-eq}
use Rattle.measurement.specs.declared.Seen.{Seen}
use Rattle.measurement.proofs.Ways.{tag-here, ready, seen-most, Stays, stays-fine, stays-answer, stays-store, of-all, of_some, placed}
use Rattle.measurement.proofs.measure_fine.Goals.{Start}
use Rattle.measurement.proofs.measure_fine.Goals as goal

-- all have the outcome
stays : (c : Start) → let a = c.args in a.seen.k0 + a.seen.k1 ≡ a.s.n0 + a.s.n1 → Stays a.s a.p.q a.p.v a.front.now 0 (a.s.n0 + a.s.n1) a.s
stays c = let a = c.args in of-all a.s a.p a.front.now a.seen c.requires.seen_value (ready a.s a.p a.front.now c.requires.passed)

pub measure_by_tag-requires-clause-q_value : goal.measure_by_tag-requires-clause-q_value
measure_by_tag-requires-clause-q_value c = sym (tag-eq c.args.s.tag c.args.p.q) ∙ sym c.eq.ensures ∙ c.if-eq.true

pub returns-then-eq : goal.returns-then-eq
returns-then-eq c =
    let a = c.args in
    placed a.s a.p.q a.p.v a.p.scale a.front.now a.back.now c.requires.passed (tag-here a.p.q a.p.v a.s a.front.now (sym (tag-eq a.s.tag a.p.q) ∙ sym c.eq.ensures ∙ c.if-eq.true)) _ _ c.measure_by_tag.ensures.value c.measure_by_tag.ensures.front_after

pub overflow_add-all : goal.overflow_add-all
overflow_add-all c =
    let h = ready c.args.s c.args.p c.args.front.now c.requires.passed in
    omega (arith, h.few, c.well_formed)

pub overflow_add-seen : goal.overflow_add-seen
overflow_add-seen c =
    let a = c.args in
    let h = ready a.s a.p a.front.now c.requires.passed in
    omega (arith, h.few, c.well_formed, seen-most a.s a.p a.front.now a.seen c.requires.seen_value)

pub normalize-requires-clause-n_bound : goal.normalize-requires-clause-n_bound
normalize-requires-clause-n_bound c =
    let h = ready c.args.s c.args.p c.args.front.now c.requires.passed in
    (h.sound.few, (stays (goal.at.normalize-requires-clause-n_bound c).Start c.if-seen-all.true).room)

pub normalize-requires-clause-all : goal.normalize-requires-clause-all
normalize-requires-clause-all c =
    (stays (goal.at.normalize-requires-clause-all c).Start c.if-seen-all.true).finites

pub normalize-requires-clause-fine_value : goal.normalize-requires-clause-fine_value
normalize-requires-clause-fine_value c =
    let a = c.args in
    let h = stays (goal.at.normalize-requires-clause-fine_value c).Start c.if-seen-all.true in
    λ f. stays-fine a.s a.p.q a.p.v a.p.scale a.front.now _ _ _ h a.seen.fine (ap (λ (z : Seen). z.fine) c.requires.seen_value)

pub returns-then-seen-all : goal.returns-then-seen-all
returns-then-seen-all c =
    let a = c.args in
    let h = stays (goal.at.returns-then-seen-all c).Start c.if-seen-all.true in
    placed a.s a.p.q a.p.v a.p.scale a.front.now a.back.now c.requires.passed h.here _ _
    (stays-answer a.s a.p.q a.p.v a.p.scale a.front.now _ _ _ h _ _ c.in_ok-normalize.ensures.value refl)
    (stays-store a.s a.p.q a.p.v a.p.scale a.front.now _ _ _ h _ _ c.in_ok-normalize.ensures.value c.in_ok-normalize.ensures.ws_after)

pub returns-in_err-normalize : goal.returns-in_err-normalize
returns-in_err-normalize c =
    let a = c.args in
    let p = err_from_is_err_and c.from_residual.result c.from_residual.ensures.1 in
    let h = stays (goal.at.returns-in_err-normalize c).Start c.if-seen-all.true in
    rw (p.1, p.2) (placed a.s a.p.q a.p.v a.p.scale a.front.now a.back.now c.requires.passed h.here _ _
    (stays-answer a.s a.p.q a.p.v a.p.scale a.front.now _ _ _ h _ _ c.in_err-normalize.ensures.value refl)
    (stays-store a.s a.p.q a.p.v a.p.scale a.front.now _ _ _ h _ _ c.in_err-normalize.ensures.value c.in_err-normalize.ensures.ws_after))

pub measure_copied-requires-clause-front_value : goal.measure_copied-requires-clause-front_value
measure_copied-requires-clause-front_value c =
    let a = c.args in
    of_some a.s a.p a.front.now a.seen c.requires.seen_value (sym (tag-eq a.s.tag a.p.q) ∙ sym c.eq.ensures ∙ c.if-eq.false) c.if-seen-all.false
