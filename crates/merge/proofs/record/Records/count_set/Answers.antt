-- `merge::record::Records::count_set` meets its contract. Assumes nothing.
use Rattle.std.proofs.Common.{◌≡◌, refl, ℕ, ◌+◌, ◌/◌, ◌<◌, List, Bool, true, false, cond, length, sym, ap, ◌∙◌, subst, arith}
use Rattle.std.specs.Bool.{beq}
use mir.Val.{bool_byte}
use Rattle.merge.specs.declared.record.Records.{Records}
use Rattle.merge.specs.Records.{record_bit}
use Rattle.merge.specs.Laws.{WholeRecords, own-width, records-whole, records-few, side-none, side-count, side-fewer}
use Rattle.merge.specs.Sorting.{side}
use Rattle.merge.specs.Walks.{records_left}
use Rattle.merge.proofs.record.Records.count_set.Goals.{In-Some, After-from-count}
use Rattle.merge.proofs.record.Records.count_set.Goals as goal

one : (b : Bool) → cond (beq b true) 1 0 ≡ bool_byte b
one true = refl
one false = refl

-- the next record, and those after it; its own width is that of all
whole : (c : In-Some) → (length c.in-Some.r.words.now ≡ c.args.self.n + 2) × WholeRecords c.args.self.n (records_left c.next.new.self)
whole c = subst (WholeRecords c.args.self.n) c.in-Some.ensures.steps c.loop-r.invariant.1

width : (c : In-Some) → c.in-Some.r.n ≡ c.args.self.n
width c = own-width c.args.self.n c.in-Some.r (whole c).0

-- with it counted, the others are left
turn : (c : After-from-count) (w : c.in-Some.r.n ≡ c.args.self.n) → let n = c.args.self.n in
    c.loop-r.count + c.from-count.result + length (side n c.args.q true (records_left c.next.new.self)) ≡ length (side n c.args.q true (records_left c.args.self))
turn c w =
    let n = c.args.self.n in
    let q = c.args.q in
    let r = c.in-Some.r.words.now in
    let b = c.from-count.ensures ∙ ap bool_byte (c.bit.ensures ∙ ap (λ (m : ℕ). record_bit m q r) w) ∙ sym (one (record_bit n q r)) in
    omega (arith, c.loop-r.invariant.0, ap (λ (rs : List (List ℕ)). length (side n q true rs)) c.in-Some.ensures.steps ∙ side-count n q true r (records_left c.next.new.self), b)

pub loop-r-init : goal.loop-r-init
loop-r-init c =
    let a = c.args in
    let i = sym c.into_iter-r-iterator.ensures.into_iter_gives in
    (omega (arith, ap (λ (p : Records). length (side a.self.n a.q true (records_left p))) c.into_iter-r-iterator.ensures.into_iter_gives), subst (λ (p : Records). WholeRecords a.self.n (records_left p)) i (records-whole a.self.n a.self.words.now))

pub bit-requires : goal.bit-requires
bit-requires c = subst (λ (m : ℕ). c.args.q / 64 < m) (sym (width (goal.at.bit-requires c).In-Some)) c.requires

pub overflow_add-count : goal.overflow_add-count
overflow_add-count c =
    let a = c.args in
    omega (arith, turn c (width (goal.at.overflow_add-count c).In-Some), side-fewer a.self.n a.q true (records_left a.self), records-few a.self.n a.self.words.now, c.well_formed)

pub loop-r-preserved : goal.loop-r-preserved
loop-r-preserved c = let w = (goal.at.loop-r-preserved c).In-Some in (turn (goal.at.loop-r-preserved c).After-from-count (width w), (whole w).1)

pub returns : goal.returns
returns c =
    let a = c.args in
    omega (arith, c.loop-r.invariant.0, ap (λ (rs : List (List ℕ)). length (side a.self.n a.q true rs)) c.in-None.ensures.steps.0 ∙ ap length (side-none a.self.n a.q true))
