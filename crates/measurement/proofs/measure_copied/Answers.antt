-- `measurement::measure_copied` meets its contract. Assumes nothing.
use mathlib.Core.Path.{sym, ap, ◌∙◌}
use mathlib.Core.List.{List}
use mathlib.Core.Bool.{true, false}
use borrow.Author.Tests.{lt-ltb, le-ltb}
use native.Mathlib.Omega.{arith}
use Prim.Native.Nat.{ℕ}
use lib.Seq.{sets}
use Rattle.std.specs.Prelude.{Ok}
use Rattle.merge.specs.Records.{flat}
use Rattle.statevector.specs.States.{with_parts}
use Rattle.statevector.specs.declared.Side.{Side}
use Rattle.measurement.proofs.Ways.{ready, seen-most, measured-copied, copied-fine, copied-room, copied-state, copied-overflow, copied-full, copied-done}
use Rattle.measurement.proofs.measure_copied.Goals as goal

pub overflow_add-s : goal.overflow_add-s
overflow_add-s c =
    let h = ready c.args.s c.args.p c.args.front.now c.requires.passed in
    omega (arith, h.sound.few)

pub overflow_add-seen : goal.overflow_add-seen
overflow_add-seen c =
    let a = c.args in
    let h = ready a.s a.p a.front.now c.requires.passed in
    omega (arith, seen-most a.s a.p a.front.now a.seen c.requires.seen_value, h.few)

pub returns-then-not-seen : goal.returns-then-not-seen
returns-then-not-seen c =
    let a = c.args in
    copied-overflow a.s a.p.q a.p.v a.p.scale a.front.now a.back.now c.requires.passed (copied-fine a.s a.p a.front.now a.seen c.requires.seen_value c.requires.front_value true c.if-not-seen.true)

pub returns-then-back-s : goal.returns-then-back-s
returns-then-back-s c =
    let a = c.args in
    copied-full a.s a.p.q a.p.v a.p.scale a.front.now a.back.now c.requires.passed c.requires.front_value
    (copied-fine a.s a.p a.front.now a.seen c.requires.seen_value c.requires.front_value false c.if-not-seen.false)
    (copied-room a.s a.p a.front.now a.seen c.requires.seen_value c.requires.front_value a.back.now true (lt-ltb _ _ c.if-back-s.true))

pub returns : goal.returns
returns c =
    let a = c.args in
    copied-done a.s a.p.q a.p.v a.p.scale a.front.now a.back.now c.requires.passed c.requires.front_value
    (copied-fine a.s a.p a.front.now a.seen c.requires.seen_value c.requires.front_value false c.if-not-seen.false)
    (copied-room a.s a.p a.front.now a.seen c.requires.seen_value c.requires.front_value a.back.now false (le-ltb _ _ c.if-back-s.false))
    _ _
    (ap Ok (ap (λ (m : Side). with_parts a.s m a.seen.k0 a.seen.k1 a.s.tag) c.other.ensures ∙ copied-state a.s a.p a.front.now a.seen c.requires.seen_value c.requires.front_value))
    (c.copy_parts.ensures ∙ ap (λ (rs : List (List ℕ)). sets a.back.now 0 (flat rs)) (sym (measured-copied a.p.q a.p.v a.p.scale a.s a.front.now c.requires.front_value)))
