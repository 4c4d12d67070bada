-- `dense::count_wanted` meets its contract. The invariant: the count, and those that are left, are
-- those that there are; and the words passed are finite. Assumes nothing.
use Prim.Native.Nat.{ℕ, ◌+◌, ◌*◌, ◌<◌}
use mathlib.Core.Path.{◌≡◌, sym, ap, ap₂, ◌∙◌}
use mathlib.Core.Bool.{true, false, ◌&&◌}
use native.Mathlib.Omega.{arith}
use mathlib.Core.List.{[]}
use lib.ListN.{length, get_or}
use Rattle.statevector.specs.Laws.{one_if}
use Rattle.dense.specs.Dense.{dense_amplitude, finite_word, wanted}
use Rattle.keys.specs.Lists.{cond-few}
use Rattle.dense.proofs.Pairwise.{first_word, second_word, count_turn, count-not-finite, count-even, count-odd, pair_at, stray-at}
use Rattle.dense.proofs.count_wanted.Goals.{In-loop-re, In-Some}
use Rattle.dense.proofs.count_wanted.Goals as goal

-- the words of the turn's pair
pair : (c : In-loop-re) → let i = c.loop-re.re-index in let ws = c.args.words.now in let p = get_or c.as_chunks.result.0.now i [] in
    (2 * i + 1 < length ws) × (get_or p 0 0 ≡ first_word ws i) × (get_or p 1 0 ≡ second_word ws i)
pair c =
    let i = c.loop-re.re-index in
    pair_at c.args.words.now _ i c.as_chunks.ensures.front (omega (arith, c.loop-re-test.true, c.as_chunks.ensures.front_len))

pub returns-then-not-is_finite_pair : goal.returns-then-not-is_finite_pair
returns-then-not-is_finite_pair c =
    let a = c.args in
    let p = pair (goal.at.returns-then-not-is_finite_pair c).In-loop-re in
    sym (count-not-finite a.words.now c.loop-re.re-index c.loop-re.count c.loop-re.invariant.1 p.0 (rw (p.1, p.2) at (sym c.is_finite_pair.ensures ∙ c.if-not-is_finite_pair.true)))

pub amplitude-requires : goal.amplitude-requires
amplitude-requires c =
    sym c.is_finite_pair.ensures ∙ c.if-not-is_finite_pair.false

pub overflow_add-count : goal.overflow_add-count
overflow_add-count c =
    omega (arith, (pair (goal.at.overflow_add-count c).In-loop-re).0, c.loop-re.invariant.0, c.from-count.ensures ∙ one_if c.is_wanted.result, cond-few c.is_wanted.result, c.well_formed)

pub loop-re-preserved : goal.loop-re-preserved
loop-re-preserved c =
    let ws = c.args.words.now in
    let i = c.loop-re.re-index in
    let p = pair (goal.at.loop-re-preserved c).In-loop-re in
    let w = c.is_wanted.ensures ∙ ap wanted (c.amplitude.ensures ∙ ap₂ dense_amplitude p.1 p.2) in
    let f = ap₂ (λ (x y : ℕ). finite_word x && finite_word y) (sym p.1) (sym p.2) ∙ sym c.is_finite_pair.ensures ∙ c.if-not-is_finite_pair.false in
    let e = c.from-count.ensures ∙ one_if c.is_wanted.result in (
      omega (arith, c.loop-re.invariant.0, cond-few c.is_wanted.result),
      rw e (count_turn ws i c.loop-re.count c.loop-re.invariant.1 c.is_wanted.result p.0 w f),
    )

pub returns-in-None : goal.returns-in-None
returns-in-None c =
    let l = c.loop-re in
    sym (count-even c.args.words.now l.re-index l.count l.invariant.1
    (omega (arith, c.in-None.ensures.item.3, c.as_chunks.ensures.front_len, c.as_chunks.ensures.back_len, c.loop-re-test.false, l.auto.re-index-end)))

-- one word is left after the pairs
stray : (c : In-Some) → let l = c.loop-re in let ws = c.args.words.now in
    (length ws ≡ 2 * l.re-index + 1) × (finite_word c.in-Some.field-0.now ≡ finite_word (first_word ws l.re-index))
stray c =
    let l = c.loop-re in
    let ws = c.args.words.now in
    let h : length ws ≡ 2 * l.re-index + 1 = omega (arith, c.in-Some.ensures.item.3.0, c.as_chunks.ensures.front_len, c.as_chunks.ensures.back_len, c.loop-re-test.false, l.auto.re-index-end) in
    (h, ap finite_word (c.in-Some.ensures.item.3.1 0 ∙ stray-at ws _ l.re-index c.as_chunks.ensures.back h))

pub returns-in-Some : goal.returns-in-Some
returns-in-Some c =
    let l = c.loop-re in
    let s = stray (goal.at.returns-in-Some c).In-Some in
    sym (count-odd c.args.words.now l.re-index l.count l.invariant.1 s.0 true (sym c.if-is_finite_bits.true ∙ c.is_finite_bits.ensures ∙ s.1))

pub returns-in-Some-2 : goal.returns-in-Some-2
returns-in-Some-2 c =
    let l = c.loop-re in
    let s = stray (goal.at.returns-in-Some-2 c).In-Some in
    sym (count-odd c.args.words.now l.re-index l.count l.invariant.1 s.0 false (c.if-is_finite_bits.ensures ∙ s.1))
