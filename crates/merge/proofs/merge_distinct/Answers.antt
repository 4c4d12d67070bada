-- `merge::merge_distinct` meets its contract. Assumes nothing.
use Rattle.std.proofs.Common.{◌≡◌, refl, ℕ, ◌+◌, ◌*◌, ◌≤◌, ◌++◌, Bool, true, false, cond, length, sym, ap, ◌∙◌, subst, arith, zero-mul}
use Rattle.std.proofs.lemmas.List.Edits.{sets}
use Rattle.merge.specs.declared.merged.Merged.{Merged}
use Rattle.merge.specs.Records.{record_bit, records, flat}
use Rattle.merge.specs.Laws.{put-none, all-side, all-merged, records-whole, own-width, WholeRecords}
use Rattle.merge.specs.Sorting.{before, sort_key, side}
use Rattle.merge.specs.Walks.{merged_left}
use Rattle.merge.proofs.Placing.{Going, going-room, going_on, pending-all}
use Rattle.merge.proofs.merge_distinct.Goals.{In-Some}
use Rattle.merge.proofs.merge_distinct.Goals as goal

-- the records of a merge are whole
merged-whole : (m : Merged) → WholeRecords m.n (merged_left m)
merged-whole m = all-merged (λ r. length r ≡ m.n + 2) (before (sort_key m.n m.left_out)) (records m.n m.lhs.now) (records m.n m.rhs.now) (records-whole m.n m.lhs.now) (records-whole m.n m.rhs.now)

-- the next record, and those after it
whole : (c : In-Some) → (length c.in-Some.r.words.now ≡ c.args.parts.n + 2) × WholeRecords c.args.parts.n (merged_left c.next.new.self)
whole c = subst (WholeRecords c.args.parts.n) c.in-Some.ensures.steps c.loop-r.invariant.2

-- its own width is that of all
width : (c : In-Some) → c.in-Some.r.n ≡ c.args.parts.n
width c = own-width c.args.parts.n c.in-Some.r (whole c).0

bit : (c : In-Some) (b : Bool) → record_bit c.in-Some.r.n c.args.q c.in-Some.r.words.now ≡ b → record_bit c.args.parts.n c.args.q c.in-Some.r.words.now ≡ b
bit c b e = ap (λ (m : ℕ). record_bit m c.args.q c.in-Some.r.words.now) (sym (width c)) ∙ e

-- it has room in the store, by its side
room : (c : In-Some) (b : Bool) → record_bit c.in-Some.r.n c.args.q c.in-Some.r.words.now ≡ b
    → let n = c.args.parts.n in cond b (c.args.n0 * (n + 2) + (c.loop-r.o1 + (n + 2))) (c.loop-r.o0 + (n + 2)) ≤ length c.loop-r.back
room c b e = going-room _ _ _ _ _ _ _ _ _ c.loop-r.invariant.0 _ _ c.in-Some.ensures.steps b (bit c b e)

pub loop-r-init : goal.loop-r-init
loop-r-init c =
    let a = c.args in
    let n = a.parts.n in
    let all = merged_left a.parts in
    let i = sym c.into_iter-r-iterator.ensures.into_iter_gives in (
      subst (λ (m : Merged). Going n a.q a.n0 (length (side n a.q true all)) (sets a.back.now 0 (flat (side n a.q false all) ++ flat (side n a.q true all))) (merged_left m) 0 0 a.back.now) i
          (record {
            k0 = 0;
            k1 = 0;
            at-0 = sym (zero-mul (n + 2));
            at_1 = sym (zero-mul (n + 2));
            left = put-none n a.n0 (length (side n a.q true all)) (side n a.q false all) (side n a.q true all) a.back.now (all-side n a.q false (λ r. length r ≡ n + 2) all (merged-whole a.parts)) c.requires.n0_value refl c.requires.room;
          }),
      refl,
      subst (λ (m : Merged). WholeRecords n (merged_left m)) i (merged-whole a.parts),
    )

pub place-requires-clause-room0 : goal.place-requires-clause-room0
place-requires-clause-room0 c =
    let w = (goal.at.place-requires-clause-room0 c).In-Some in
    λ e. subst (λ (m : ℕ). c.loop-r.o0 + (m + 2) ≤ length c.loop-r.back) (sym (width w)) (room w false e)

pub place-requires-clause-room1 : goal.place-requires-clause-room1
place-requires-clause-room1 c =
    let w = (goal.at.place-requires-clause-room1 c).In-Some in
    λ e. subst (λ (m : ℕ). c.args.n0 * (c.args.parts.n + 2) + (c.loop-r.o1 + (m + 2)) ≤ length c.loop-r.back) (sym (width w)) (room w true e)

pub loop-r-preserved-then-place : goal.loop-r-preserved-then-place
loop-r-preserved-then-place c =
    let w = (goal.at.loop-r-preserved-then-place c).In-Some in (
      going_on _ _ _ _ _ _ _ _ _ c.loop-r.invariant.0 _ _ c.in-Some.ensures.steps true (bit w true (sym c.place.ensures.value ∙ c.if-place.true)) (whole w).0 _
          (c.place.ensures.back_after ∙ ap (λ (b : Bool). sets c.loop-r.back (cond b (c.args.n0 * (c.args.parts.n + 2) + c.loop-r.o1) c.loop-r.o0) c.in-Some.r.words.now) c.if-place.true),
      omega (arith, c.place.auto.back, c.loop-r.invariant.1),
      (whole w).1,
    )

pub loop-r-preserved : goal.loop-r-preserved
loop-r-preserved c =
    let w = (goal.at.loop-r-preserved c).In-Some in (
      going_on _ _ _ _ _ _ _ _ _ c.loop-r.invariant.0 _ _ c.in-Some.ensures.steps false (bit w false (sym c.place.ensures.value ∙ c.if-place.false)) (whole w).0 _
          (c.place.ensures.back_after ∙ ap (λ (b : Bool). sets c.loop-r.back (cond b (c.args.n0 * (c.args.parts.n + 2) + c.loop-r.o1) c.loop-r.o0) c.in-Some.r.words.now) c.if-place.false),
      omega (arith, c.place.auto.back, c.loop-r.invariant.1),
      (whole w).1,
    )

pub returns : goal.returns
returns c = pending-all _ _ _ _ _ _ _ _ _ c.in-None.ensures.steps.0 c.loop-r.invariant.0.left
