-- `estimates::Accepted::total_by_tag` meets its contract. The invariant: the counts, and what is
-- left of the pairs, are those that there are. Assumes nothing.
use Prim.Native.Nat.{ℕ, ◌+◌}
use mathlib.Core.Path.{◌≡◌, sym, ap, ◌∙◌, subst}
use mathlib.Core.List.{List, ◌∷◌}
use mathlib.Core.Bool.{true, false}
use native.Mathlib.Omega.{arith}
use Rattle.std.specs.Prelude.{Result}
use Rattle.std.proofs.Common.{inl, inr}
use Rattle.std.proofs.lemmas.Result.{err_from_is_err_and}
use Rattle.amplitudes.specs.Pairs.{combined}
use Rattle.merge.specs.declared.pairs.Pair.{Pair}
use Rattle.merge.specs.Pairs as merge
use Rattle.merge.specs.Records.{part, amplitude_of}
use Rattle.merge.specs.Laws.{record-width, pairs-of}
use Rattle.merge.specs.Walks.{records_of, pairs_left}
use Rattle.statevector.specs.declared.Refusal.{Refusal}
use Rattle.statevector.specs.States.{entries_of}
use Rattle.estimates.specs.declared.Accepted.{Accepted}
use Rattle.estimates.specs.Passes.{drops_of, both_of}
use Rattle.estimates.proofs.Estimating.{ready}
use Rattle.estimates.proofs.Walking.{Walked, WalkingIn, walk-lhs, walk-rhs, walk-both, walk-all, walk-few, walk_none}
use Rattle.estimates.proofs.Accepted.total_by_tag.Goals.{In-Lhs, After-amplitude-in-Both}
use Rattle.estimates.proofs.Accepted.total_by_tag.Goals as goal

-- the next pair, and those after it, are left
ahead : (a : Accepted) (left ps : List merge.Pair) (u d : ℕ) (i j : Pair) → WalkingIn a left u d → left ≡ records_of i ∷ ps → i ≡ j → WalkingIn a (records_of j ∷ ps) u d
ahead a left ps u d i j w s e = subst (λ (ps : List merge.Pair). WalkingIn a ps u d) (s ∙ ap (λ (i : Pair). records_of i ∷ ps) e) w

-- an entry without a partner, of either part
alone : (c : In-Lhs) → WalkingIn c.args.self.now (pairs_left c.next.new.self) (c.loop-pair.unpaired + 1) c.loop-pair.dropped
alone c =
    let next : (j : Pair) → c.in-Some.pair ≡ j → WalkingIn c.args.self.now (records_of j ∷ pairs_left c.next.new.self) c.loop-pair.unpaired c.loop-pair.dropped =
    λ j. ahead c.args.self.now _ _ _ _ _ j c.loop-pair.invariant c.in-Some.ensures.steps.0 in
    elim c.in-Lhs.is [ inl x ↦ walk-lhs _ _ _ _ _ _ _ _ (next _ x.1) | inr y ↦ walk-rhs _ _ _ _ _ _ _ _ (next _ y.1) ]

-- two that are partners: the turn with what was found at them
turn : (c : After-amplitude-in-Both) → let a = c.args.self.now in
    (d : Result ℕ Refusal) → d ≡ both_of (drops_of (combined a.g false c.amplitude.result c.amplitude-in-Both.result)) (drops_of (combined a.g true c.amplitude-in-Both.result c.amplitude.result))
    → Walked a.s.width a.q a.g (entries_of a.s a.ws.now) (pairs_left c.next.new.self) c.loop-pair.unpaired c.loop-pair.dropped d
turn c d h =
    let a = c.args.self.now in
    let n = a.s.width in
    let x = c.in-Both.x in
    let y = c.in-Both.y in
    let w = ahead a _ _ _ _ _ _ c.loop-pair.invariant c.in-Some.ensures.steps.0 c.in-Both.is in
    walk-both _ _ _ _ _ _ _ _ _ w _ _ (c.amplitude.ensures ∙ ap (λ (m : ℕ). amplitude_of m x.words.now) (record-width n x w.whole.0.0))
    (c.amplitude-in-Both.ensures ∙ ap (λ (m : ℕ). amplitude_of m y.words.now) (record-width n y w.whole.0.1)) d h

pub new-pair-items-requires-clause-n_in_bounds : goal.new-pair-items-requires-clause-n_in_bounds
new-pair-items-requires-clause-n_in_bounds c = rw c.len.ensures (omega arith, (ready c.args.self.now).sound.room)

pub new-pair-items-requires-clause-n_bound : goal.new-pair-items-requires-clause-n_bound
new-pair-items-requires-clause-n_bound c = let f = (ready c.args.self.now).sound.few in omega (arith, f)

pub loop-pair-init : goal.loop-pair-init
loop-pair-init c =
    let a = c.args.self.now in
    subst (λ (ps : List merge.Pair). WalkingIn a ps 0 0)
    (sym
    (ap pairs_left c.into_iter-pair-iterator.ensures.into_iter_gives
    ∙ pairs-of c.new-pair-items.result a.s.width a.q _ _ c.new-pair-items.ensures.of c.new-pair-items.ensures.lhs_value (c.new-pair-items.ensures.rhs_value ∙ ap (part a.s.width a.ws.now a.s.n0) c.len.ensures)))
    (walk_none a c.requires)

pub overflow_add-unpaired : goal.overflow_add-unpaired
overflow_add-unpaired c = let a = c.args.self.now in omega (arith, (ready a).few, (walk-few a _ _ _ (alone c)).0)

pub loop-pair-preserved-in-Lhs : goal.loop-pair-preserved-in-Lhs
loop-pair-preserved-in-Lhs c = alone c

pub returns-in_err-dropped-in-Both : goal.returns-in_err-dropped-in-Both
returns-in_err-dropped-in-Both c =
    let p = err_from_is_err_and c.from_residual.result c.from_residual.ensures.1 in
    rw (p.1, p.2) (sym (turn (goal.at.returns-in_err-dropped-in-Both c).After-amplitude-in-Both _ c.in_err-dropped-in-Both.ensures))

pub overflow_add-dropped : goal.overflow_add-dropped
overflow_add-dropped c =
    let a = c.args.self.now in
    omega (arith, (ready a).few, (walk-few a _ _ _ (turn (goal.at.overflow_add-dropped c).After-amplitude-in-Both _ c.in_ok-dropped-in-Both.ensures)).1)

pub loop-pair-preserved : goal.loop-pair-preserved
loop-pair-preserved c = turn (goal.at.loop-pair-preserved c).After-amplitude-in-Both _ c.in_ok-dropped-in-Both.ensures

pub returns : goal.returns
returns c =
    sym (walk-all _ _ _ _ _ _ (subst (λ (ps : List merge.Pair). WalkingIn c.args.self.now ps c.loop-pair.unpaired c.loop-pair.dropped) c.in-None.ensures.steps.0.0 c.loop-pair.invariant))
