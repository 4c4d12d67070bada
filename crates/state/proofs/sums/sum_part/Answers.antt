-- `state::sums::sum_part` meets its contract. The invariant: what is left, added on top of each
-- sum, gives the sum over all. Assumes nothing.
use Rattle.std.proofs.Common.{◌≡◌, refl, ℕ, ◌+◌, ◌/◌, ◌<◌, Bool, true, false, cond, sym, ap, ◌∙◌, subst, length}
use Rattle.std.specs.Bool.{beq}
use Rattle.std.specs.Float.{binary64}
use Rattle.std.specs.Float.Ieee.{add, of_bits}
use Rattle.amplitudes.specs.Amplitudes.{norm2}
use Rattle.merge.specs.declared.record.Records.{Records}
use Rattle.merge.specs.Records.{record_bit, amplitude_of, finite_record}
use Rattle.merge.specs.Laws.{all_both, record-width, record-finite, records-whole}
use Rattle.merge.specs.Walks.{Whole, records_left}
use Rattle.state.proofs.Summing.{Summing, summing-whole, summing-next, summing-end}
use Rattle.state.proofs.sums.sum_part.Goals.{In-Some, After-bit}
use Rattle.state.proofs.sums.sum_part.Goals as goal

-- the record of a turn is whole, and finite; its own width is that of all
whole : (c : In-Some) → Whole c.args.part.n c.in-Some.r.words.now
whole c = (summing-whole _ _ _ _ _ _ c.loop-r.invariant _ _ c.in-Some.ensures.steps).0

width : (c : In-Some) → c.in-Some.r.n ≡ c.args.part.n
width c = record-width c.args.part.n c.in-Some.r (whole c)

pub loop-r-init : goal.loop-r-init
unfolding of_bits
loop-r-init c =
    let p = c.args.part in
    subst (λ (i : Records). Summing p.n c.args.q (records_left p) (records_left i) _ _) (sym c.into_iter-r-iterator.ensures.into_iter_gives)
    (record { clears = refl; sets = refl; whole = all_both (λ r. length r ≡ p.n + 2) (λ r. finite_record p.n r ≡ true) (records_left p) (records-whole p.n p.words.now) c.requires.all })

pub amplitude-requires : goal.amplitude-requires
amplitude-requires c = record-finite c.args.part.n c.in-Some.r (whole (goal.at.amplitude-requires c).In-Some)

pub bit-requires : goal.bit-requires
bit-requires c = subst (λ (m : ℕ). c.args.q / 64 < m) (sym (width (goal.at.bit-requires c).In-Some)) c.requires.q_bound

-- a record more, by its bit
turn : (c : After-bit) (w : c.in-Some.r.n ≡ c.args.part.n) (b : Bool) → c.bit.result ≡ b → let p = c.args.part in let m = c.norm2-square.result in
    Summing p.n c.args.q (records_left p) (records_left c.next.new.self) (cond (beq b false) (add binary64 c.loop-r.clear m) c.loop-r.clear) (cond (beq b true) (add binary64 c.loop-r.set m) c.loop-r.set)
turn c w b e =
    let r = c.in-Some.r.words.now in
    summing-next _ _ _ _ _ _ c.loop-r.invariant r _ c.in-Some.ensures.steps b (sym e ∙ c.bit.ensures ∙ ap (λ (m : ℕ). record_bit m c.args.q r) w) _
    (c.norm2-square.ensures ∙ ap norm2 (c.amplitude.ensures ∙ ap (λ (m : ℕ). amplitude_of m r) w)) _ _ refl refl

pub loop-r-preserved-then-bit : goal.loop-r-preserved-then-bit
loop-r-preserved-then-bit c = let at = goal.at.loop-r-preserved-then-bit c in turn at.After-bit (width at.In-Some) true c.if-bit.true

pub loop-r-preserved : goal.loop-r-preserved
loop-r-preserved c = let at = goal.at.loop-r-preserved c in turn at.After-bit (width at.In-Some) false c.if-bit.false

pub returns : goal.returns
returns c =
    let h = summing-end _ _ _ _ _ _ c.loop-r.invariant c.in-None.ensures.steps.0 in
    record { clear_value = h.0; set_value = h.1 }
