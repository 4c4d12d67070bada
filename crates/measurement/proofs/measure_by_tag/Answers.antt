-- `measurement::measure_by_tag` meets its contract. Assumes nothing.
use mathlib.Core.Path.{◌≡◌, refl, sym, ap, subst}
use Rattle.std.proofs.lemmas.Result.{err_from_is_err_and}
use mathlib.Core.Bool.{Bool, true, false, cond}
use Rattle.statevector.specs.States.{with_parts}
use Rattle.measurement.specs.declared.Seen.{Seen}
use Rattle.measurement.proofs.Ways.{ready, Stays, stays-fine, stays-answer, stays-store, by-tag}
use Rattle.measurement.proofs.measure_by_tag.Goals.{Start}
use Rattle.measurement.proofs.measure_by_tag.Goals as goal

-- what stays, by the outcome
stays : (c : Start) (b : Bool) → c.args.p.v ≡ b → let a = c.args in
    Stays a.s a.p.q a.p.v a.front.now (cond b a.s.n0 0) (cond b a.s.n1 a.s.n0) (with_parts a.s a.s.front (cond b 0 a.s.n0) (cond b a.s.n1 0) a.s.tag)
stays c b e =
    let a = c.args in
    subst (λ (t : Bool). Stays a.s a.p.q t a.front.now (cond b a.s.n0 0) (cond b a.s.n1 a.s.n0) (with_parts a.s a.s.front (cond b 0 a.s.n0) (cond b a.s.n1 0) a.s.tag)) (sym e)
    (by-tag a.s a.p.q a.front.now (ready a.s a.p a.front.now c.requires.passed) b c.requires.q_value)

pub normalize-requires-clause-n_bound : goal.normalize-requires-clause-n_bound
normalize-requires-clause-n_bound c =
    let h = ready c.args.s c.args.p c.args.front.now c.requires.passed in
    (h.sound.few, (stays (goal.at.normalize-requires-clause-n_bound c).Start true c.if-p.true).room)

pub normalize-requires-clause-all : goal.normalize-requires-clause-all
normalize-requires-clause-all c =
    (stays (goal.at.normalize-requires-clause-all c).Start true c.if-p.true).finites

pub normalize-requires-clause-fine_value : goal.normalize-requires-clause-fine_value
normalize-requires-clause-fine_value c =
    let a = c.args in
    let h = stays (goal.at.normalize-requires-clause-fine_value c).Start true c.if-p.true in
    λ f. stays-fine a.s a.p.q a.p.v a.p.scale a.front.now _ _ _ h a.seen.fine (ap (λ (z : Seen). z.fine) c.requires.seen_value)

pub returns-in_err-normalize-clause-value : goal.returns-in_err-normalize-clause-value
returns-in_err-normalize-clause-value c =
    let a = c.args in
    let h = stays (goal.at.returns-in_err-normalize-clause-value c).Start true c.if-p.true in
    let p = err_from_is_err_and c.from_residual.result c.from_residual.ensures.1 in
    rw (p.1, p.2) (stays-answer a.s a.p.q a.p.v a.p.scale a.front.now _ _ _ h _ _ c.in_err-normalize.ensures.value refl)

pub returns-in_err-normalize-clause-front_after : goal.returns-in_err-normalize-clause-front_after
returns-in_err-normalize-clause-front_after c =
    let a = c.args in
    let h = stays (goal.at.returns-in_err-normalize-clause-front_after c).Start true c.if-p.true in
    stays-store a.s a.p.q a.p.v a.p.scale a.front.now _ _ _ h _ _ c.in_err-normalize.ensures.value c.in_err-normalize.ensures.ws_after

pub returns-then-p-clause-value : goal.returns-then-p-clause-value
returns-then-p-clause-value c =
    let a = c.args in
    let h = stays (goal.at.returns-then-p-clause-value c).Start true c.if-p.true in
    stays-answer a.s a.p.q a.p.v a.p.scale a.front.now _ _ _ h _ _ c.in_ok-normalize.ensures.value refl

pub returns-then-p-clause-front_after : goal.returns-then-p-clause-front_after
returns-then-p-clause-front_after c =
    let a = c.args in
    let h = stays (goal.at.returns-then-p-clause-front_after c).Start true c.if-p.true in
    stays-store a.s a.p.q a.p.v a.p.scale a.front.now _ _ _ h _ _ c.in_ok-normalize.ensures.value c.in_ok-normalize.ensures.ws_after

pub normalize-requires-2-clause-n_bound : goal.normalize-requires-2-clause-n_bound
normalize-requires-2-clause-n_bound c =
    let h = ready c.args.s c.args.p c.args.front.now c.requires.passed in
    (h.sound.few, (stays (goal.at.normalize-requires-2-clause-n_bound c).Start false c.if-p.false).room)

pub normalize-requires-2-clause-all : goal.normalize-requires-2-clause-all
normalize-requires-2-clause-all c =
    (stays (goal.at.normalize-requires-2-clause-all c).Start false c.if-p.false).finites

pub normalize-requires-2-clause-fine_value : goal.normalize-requires-2-clause-fine_value
normalize-requires-2-clause-fine_value c =
    let a = c.args in
    let h = stays (goal.at.normalize-requires-2-clause-fine_value c).Start false c.if-p.false in
    λ f. stays-fine a.s a.p.q a.p.v a.p.scale a.front.now _ _ _ h a.seen.fine (ap (λ (z : Seen). z.fine) c.requires.seen_value)

pub returns-in_err-normalize-2-clause-value : goal.returns-in_err-normalize-2-clause-value
returns-in_err-normalize-2-clause-value c =
    let a = c.args in
    let h = stays (goal.at.returns-in_err-normalize-2-clause-value c).Start false c.if-p.false in
    let p = err_from_is_err_and c.from_residual-in_err-normalize-2.result c.from_residual-in_err-normalize-2.ensures.1 in
    rw (p.1, p.2) (stays-answer a.s a.p.q a.p.v a.p.scale a.front.now _ _ _ h _ _ c.in_err-normalize-2.ensures.value refl)

pub returns-in_err-normalize-2-clause-front_after : goal.returns-in_err-normalize-2-clause-front_after
returns-in_err-normalize-2-clause-front_after c =
    let a = c.args in
    let h = stays (goal.at.returns-in_err-normalize-2-clause-front_after c).Start false c.if-p.false in
    stays-store a.s a.p.q a.p.v a.p.scale a.front.now _ _ _ h _ _ c.in_err-normalize-2.ensures.value c.in_err-normalize-2.ensures.ws_after

pub returns-clause-value : goal.returns-clause-value
returns-clause-value c =
    let a = c.args in
    let h = stays (goal.at.returns-clause-value c).Start false c.if-p.false in
    stays-answer a.s a.p.q a.p.v a.p.scale a.front.now _ _ _ h _ _ c.in_ok-normalize-2.ensures.value refl

pub returns-clause-front_after : goal.returns-clause-front_after
returns-clause-front_after c =
    let a = c.args in
    let h = stays (goal.at.returns-clause-front_after c).Start false c.if-p.false in
    stays-store a.s a.p.q a.p.v a.p.scale a.front.now _ _ _ h _ _ c.in_ok-normalize-2.ensures.value c.in_ok-normalize-2.ensures.ws_after
