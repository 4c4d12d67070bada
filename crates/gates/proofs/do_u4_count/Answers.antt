-- `gates::do_u4_count` meets its contract: what is left of the pairs, counted on, gives the whole.
-- Assumes nothing.
use Prim.Native.Nat.{ℕ, ◌+◌, ◌^◌, ◌≤◌, ◌<◌}
use mathlib.Core.Path.{◌≡◌, refl, sym, ap, ap₂, ◌∙◌, subst}
use mathlib.Core.Bool.{true, false, ◌&&◌, ◌||◌}
use mathlib.Core.List.{◌∷◌}
use native.Mathlib.Omega.{arith}
use lib.ListN.{length}
use Rattle.keys.specs.Lists.{All}
use Rattle.merge.specs.declared.pairs.Pair as declared
use Rattle.merge.specs.declared.pairs.Pair.TheVariants.{Lhs, Rhs, Both}
use Rattle.merge.specs.Pairs.{lhs, rhs, both}
use Rattle.merge.specs.Records.{finite_record}
use Rattle.merge.specs.Walks.{InPair, records_of, pairs_left}
use Rattle.merge.specs.Laws.{own-width}
use Rattle.gates.specs.Passes.{kept_counts}
use Rattle.gates.proofs.Walking.{wide-pairs}
use Rattle.gates.proofs.PairSums.{sums_of, sums-are}
use Rattle.gates.proofs.Counting.{sound_next, looked-at, both-finite, fit-tested, fit_found, kept-few, count_none, count-alone, count-both, count-off, counted-off, count-done, count_fits}
use Rattle.gates.proofs.do_u4_count.Goals.{At-loop-pair, In-Some, Joined-else-not-tested, Joined-else-not-tested-2, Joined-else-not-tested-3, After-count_kept-kept, else-not-tested-via-then-not-tested+else-not-is_sound, else-not-tested-via-else-not-tested, else-not-tested-2-via-then-not-tested-2+else-not-is_sound-2, else-not-tested-2-via-else-not-tested-2, else-not-tested-3-via-then-not-tested-3+else-not-are_both_sound, else-not-tested-3-via-else-not-tested-3}
use Rattle.gates.proofs.do_u4_count.Goals as goal

-- counts fit
counts-fit : (c : At-loop-pair) (d : ℕ) → d ≤ 2 → let o = c.loop-pair in (o.alone + o.k0 + d < 2 ^ 64) × (o.alone + o.k1 + d < 2 ^ 64)
counts-fit c d D = count_fits c.args.pairs c.loop-pair.invariant.1.counting d D (omega arith) (omega arith)

-- what is next, which has the walk's width, and what is left after it
module _ (c : In-Some) (p : declared.Pair) (is : c.in-Some.pair ≡ p) where
  first : pairs_left c.loop-pair.left ≡ records_of p ∷ pairs_left c.next.new.self
  first = c.in-Some.ensures.steps.0 ∙ ap (λ (p : declared.Pair). records_of p ∷ pairs_left c.next.new.self) is

  wide : InPair (λ r. length r ≡ c.args.pairs.n + 2) (records_of p) × All (InPair (λ r. length r ≡ c.args.pairs.n + 2)) (pairs_left c.next.new.self)
  wide = subst (All (InPair (λ r. length r ≡ c.args.pairs.n + 2))) first c.loop-pair.invariant.1.wide

  finite : c.args.tested ≡ true → InPair (λ r. finite_record c.args.pairs.n r ≡ true) (records_of p) × All (InPair (λ r. finite_record c.args.pairs.n r ≡ true)) (pairs_left c.next.new.self)
  finite t = subst (All (InPair (λ r. finite_record c.args.pairs.n r ≡ true))) first (c.loop-pair.invariant.1.finite t)

width : (c : In-Some) → c.next.new.self.n ≡ c.args.pairs.n
width c = c.in-Some.ensures.steps.1 ∙ c.loop-pair.invariant.1.width

pub returns-then-pairs-eq0 : goal.returns-then-pairs-eq0
returns-then-pairs-eq0 c = absurd (let e = c.if-pairs-eq0.true in omega (arith, c.requires.q_bound))

pub loop-pair-init : goal.loop-pair-init
loop-pair-init c =
    let a = c.args in
    ((tt, tt), record { counting = count_none a.pairs.n a.pairs.q a.g a.tested (pairs_left a.pairs); width = refl; wide = wide-pairs a.pairs; finite = c.requires.finite_pairs })

pub returns-then-not-is_sound : goal.returns-then-not-is_sound
returns-then-not-is_sound c =
    let i = (goal.at.returns-then-not-is_sound c).In-Some in
    let x = c.in-Lhs.x in
    let l = c.loop-pair.invariant.1.counting in
    let s = looked-at c.args.pairs.n c.args.pairs.q false x c.next.new.self (wide i (Lhs x) c.in-Lhs.is).0 (width i) in
    counted-off c.args.pairs l (count-off l _ _ (first i (Lhs x) c.in-Lhs.is) c.if-not-tested.true (sym s ∙ sym c.is_sound.ensures ∙ c.if-not-is_sound.true))

lhs-fits : (c : Joined-else-not-tested) → length c.in-Lhs.x.words.now ≡ c.args.pairs.n + 2 → c.next.new.self.n ≡ c.args.pairs.n
    → (c.args.tested || sound_next c.args.pairs.n c.args.pairs.q (lhs c.in-Lhs.x.words.now) (pairs_left c.next.new.self)) ≡ true
lhs-fits c h w =
    let t = c.args.tested in
    elim c.else-not-tested.branch [
      | else-not-tested-via-then-not-tested+else-not-is_sound v ↦ fit_found t _ (sym (looked-at c.args.pairs.n c.args.pairs.q false c.in-Lhs.x c.next.new.self h w) ∙ sym v.is_sound.ensures ∙ v.if-not-is_sound.false)
      | else-not-tested-via-else-not-tested v ↦ fit-tested t _ v.if-not-tested.false
    ]

pub overflow_add-alone : goal.overflow_add-alone
overflow_add-alone c = record { fits = omega (arith, (counts-fit (goal.at.overflow_add-alone c).At-loop-pair 1 (omega arith)).0) }

pub loop-pair-preserved-in-Lhs : goal.loop-pair-preserved-in-Lhs
loop-pair-preserved-in-Lhs c =
    let i = (goal.at.loop-pair-preserved-in-Lhs c).In-Some in
    let x = c.in-Lhs.x in
    let h = wide i (Lhs x) c.in-Lhs.is in
    let f = lhs-fits (goal.at.loop-pair-preserved-in-Lhs c).Joined-else-not-tested h.0 (width i) in
    ((tt, tt), record { counting = count-alone c.loop-pair.invariant.1.counting false _ _ (first i (Lhs x) c.in-Lhs.is) f; width = width i; wide = h.1; finite = λ t. (finite i (Lhs x) c.in-Lhs.is t).1 })

pub returns-then-not-is_sound-2 : goal.returns-then-not-is_sound-2
returns-then-not-is_sound-2 c =
    let i = (goal.at.returns-then-not-is_sound-2 c).In-Some in
    let y = c.in-Rhs.y in
    let l = c.loop-pair.invariant.1.counting in
    let s = looked-at c.args.pairs.n c.args.pairs.q true y c.next.new.self (wide i (Rhs y) c.in-Rhs.is).0 (width i) in
    counted-off c.args.pairs l (count-off l _ _ (first i (Rhs y) c.in-Rhs.is) c.if-not-tested-2.true (sym s ∙ sym c.is_sound-then-not-tested-2.ensures ∙ c.if-not-is_sound-2.true))

rhs-fits : (c : Joined-else-not-tested-2) → length c.in-Rhs.y.words.now ≡ c.args.pairs.n + 2 → c.next.new.self.n ≡ c.args.pairs.n
    → (c.args.tested || sound_next c.args.pairs.n c.args.pairs.q (rhs c.in-Rhs.y.words.now) (pairs_left c.next.new.self)) ≡ true
rhs-fits c h w =
    let t = c.args.tested in
    elim c.else-not-tested-2.branch [
      | else-not-tested-2-via-then-not-tested-2+else-not-is_sound-2 v ↦ fit_found t _ (sym (looked-at c.args.pairs.n c.args.pairs.q true c.in-Rhs.y c.next.new.self h w) ∙ sym v.is_sound-then-not-tested-2.ensures ∙ v.if-not-is_sound-2.false)
      | else-not-tested-2-via-else-not-tested-2 v ↦ fit-tested t _ v.if-not-tested-2.false
    ]

pub overflow_add-alone-in-Rhs : goal.overflow_add-alone-in-Rhs
overflow_add-alone-in-Rhs c = record { fits = omega (arith, (counts-fit (goal.at.overflow_add-alone-in-Rhs c).At-loop-pair 1 (omega arith)).0) }

pub loop-pair-preserved-in-Rhs : goal.loop-pair-preserved-in-Rhs
loop-pair-preserved-in-Rhs c =
    let i = (goal.at.loop-pair-preserved-in-Rhs c).In-Some in
    let y = c.in-Rhs.y in
    let h = wide i (Rhs y) c.in-Rhs.is in
    let f = rhs-fits (goal.at.loop-pair-preserved-in-Rhs c).Joined-else-not-tested-2 h.0 (width i) in
    ((tt, tt), record { counting = count-alone c.loop-pair.invariant.1.counting true _ _ (first i (Rhs y) c.in-Rhs.is) f; width = width i; wide = h.1; finite = λ t. (finite i (Rhs y) c.in-Rhs.is t).1 })

pub returns-then-not-are_both_sound : goal.returns-then-not-are_both_sound
returns-then-not-are_both_sound c =
    let i = (goal.at.returns-then-not-are_both_sound c).In-Some in
    let p = c.args.pairs in
    let x = c.in-Both.x in
    let y = c.in-Both.y in
    let l = c.loop-pair.invariant.1.counting in
    let h = (wide i (Both x y) c.in-Both.is).0 in
    let s = ap₂ ◌&&◌ (looked-at p.n p.q false x c.next.new.self h.0 (width i)) (looked-at p.n p.q true y c.next.new.self h.1 (width i)) in
    counted-off p l (count-off l _ _ (first i (Both x y) c.in-Both.is) c.if-not-tested-3.true (sym s ∙ sym c.are_both_sound.ensures ∙ c.if-not-are_both_sound.true))

-- two that are partners are sound, or were tested; either way their amplitudes can be read
both-fits : (c : Joined-else-not-tested-3) → InPair (λ r. length r ≡ c.args.pairs.n + 2) (both c.in-Both.x.words.now c.in-Both.y.words.now) → c.next.new.self.n ≡ c.args.pairs.n
    → (c.args.tested || sound_next c.args.pairs.n c.args.pairs.q (both c.in-Both.x.words.now c.in-Both.y.words.now) (pairs_left c.next.new.self)) ≡ true
both-fits c h w =
    let t = c.args.tested in
    let p = c.args.pairs in
    let s = ap₂ ◌&&◌ (looked-at p.n p.q false c.in-Both.x c.next.new.self h.0 w) (looked-at p.n p.q true c.in-Both.y c.next.new.self h.1 w) in
    elim c.else-not-tested-3.branch [
      | else-not-tested-3-via-then-not-tested-3+else-not-are_both_sound v ↦ fit_found t _ (sym s ∙ sym v.are_both_sound.ensures ∙ v.if-not-are_both_sound.false)
      | else-not-tested-3-via-else-not-tested-3 v ↦ fit-tested t _ v.if-not-tested-3.false
    ]

pub count_kept-kept-requires : goal.count_kept-kept-requires
count_kept-kept-requires c =
    let p = c.args.pairs in
    let x = c.in-Both.x in
    let y = c.in-Both.y in
    let i = (goal.at.count_kept-kept-requires c).In-Some in
    let h = (wide i (Both x y) c.in-Both.is).0 in
    let f = both-fits (goal.at.count_kept-kept-requires c).Joined-else-not-tested-3 h (width i) in
    rw (own-width p.n x h.0, own-width p.n y h.1) (both-finite p.n p.q c.args.tested _ _ (pairs_left c.next.new.self) f (λ t. (finite i (Both x y) c.in-Both.is t).0))

-- the sums that are kept are those of the records
kept : (c : After-count_kept-kept) → InPair (λ r. length r ≡ c.args.pairs.n + 2) (both c.in-Both.x.words.now c.in-Both.y.words.now)
    → c.count_kept-kept.result ≡ kept_counts (sums_of c.args.pairs.n c.args.g c.in-Both.x.words.now c.in-Both.y.words.now)
kept c h =
    let n = c.args.pairs.n in
    rw (own-width n c.in-Both.x h.0, own-width n c.in-Both.y h.1) at c.count_kept-kept.ensures ∙ ap kept_counts (sums-are n c.args.g _ _)

pub overflow_add-k0 : goal.overflow_add-k0
overflow_add-k0 c =
    let i = (goal.at.overflow_add-k0 c).In-Some in
    let k = kept (goal.at.overflow_add-k0 c).After-count_kept-kept (wide i (Both c.in-Both.x c.in-Both.y) c.in-Both.is).0 in
    record { fits = omega (arith, (kept-few _ _ _ _ _ k).0, (counts-fit (goal.at.overflow_add-k0 c).At-loop-pair 1 (omega arith)).0) }

pub overflow_add-k1 : goal.overflow_add-k1
overflow_add-k1 c =
    let i = (goal.at.overflow_add-k1 c).In-Some in
    let k = kept (goal.at.overflow_add-k1 c).After-count_kept-kept (wide i (Both c.in-Both.x c.in-Both.y) c.in-Both.is).0 in
    record { fits = omega (arith, (kept-few _ _ _ _ _ k).1, (counts-fit (goal.at.overflow_add-k1 c).At-loop-pair 1 (omega arith)).1) }

pub loop-pair-preserved : goal.loop-pair-preserved
loop-pair-preserved c =
    let x = c.in-Both.x in
    let y = c.in-Both.y in
    let i = (goal.at.loop-pair-preserved c).In-Some in
    let h = wide i (Both x y) c.in-Both.is in
    let f = both-fits (goal.at.loop-pair-preserved c).Joined-else-not-tested-3 h.0 (width i) in
    let k = kept (goal.at.loop-pair-preserved c).After-count_kept-kept h.0 in
    ((tt, tt), record { counting = count-both c.loop-pair.invariant.1.counting _ _ _ (first i (Both x y) c.in-Both.is) f _ k; width = width i; wide = h.1; finite = λ t. (finite i (Both x y) c.in-Both.is t).1 })

pub overflow_add-result : goal.overflow_add-result
overflow_add-result c = record { fits = omega (arith, (counts-fit (goal.at.overflow_add-result c).At-loop-pair 0 (omega arith)).0) }

pub overflow_add-result-2 : goal.overflow_add-result-2
overflow_add-result-2 c = record { fits = omega (arith, (counts-fit (goal.at.overflow_add-result-2 c).At-loop-pair 0 (omega arith)).1) }

pub returns : goal.returns
returns c = count-done c.args.pairs c.loop-pair.invariant.1.counting (c.in_default.ensures.steps.0.0) _ refl
