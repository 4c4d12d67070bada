-- `keys::compare` meets its contract. The invariant: the words before k agree without the left-out
-- bit. Assumes nothing.
use Rattle.std.specs.declared.cmp.Ordering.{Ordering}
use Rattle.std.specs.declared.cmp.Ordering.TheVariants.{Less, Equal, Greater}
use Prim.Native.Nat.{ℕ, ◌<◌}
use mathlib.Core.Path.{◌≡◌, sym, ap, ◌∙◌}
use mathlib.Core.List.{List}
use native.Mathlib.Omega.{arith}
use borrow.Author.Count.{below_more}
use Rattle.keys.specs.Keys.{order, Before, Says, pairs_compared, word_without}
use Rattle.keys.specs.Laws.{says-order}
use Rattle.keys.proofs.Differences.{level, below, all-compared, compared-to}
use Rattle.std.specs.Ordering.{MatchOrdering}
use Rattle.std.proofs.lemmas.Cmp.{ranked}
use Rattle.keys.proofs.compare.Goals.{else-a-k, then-a-k+else-x-y}
use Rattle.keys.proofs.compare.Goals as goal

-- an answer that says the truth is the order's
promised : (r : Ordering) (c : ℕ) (x y : List ℕ) → Says r x y → c ≡ pairs_compared x y → (r ≡ order x y) × (Says r x y × (c ≡ pairs_compared x y))
promised r c x y h e = (sym (says-order r x y h), (h, e))

-- two words that differ say how the keys stand
decided : (o : Ordering) (v w : ℕ) (x y : List ℕ) → MatchOrdering o (v < w) (v ≡ w) (w < v) → (v ≡ w → ⊥) → (v < w → Before x y) → (w < v → Before y x) → Says o x y
decided Less v w x y m d f g = f m
decided Equal v w x y m d f g = absurd (d m)
decided Greater v w x y m d f g = g m

pub loop-k-init : goal.loop-k-init
loop-k-init c =
    λ m h. absurd (omega arith)

pub returns-then-x-y : goal.returns-then-x-y
returns-then-x-y c =
    let o = c.args.left_out in
    let a = c.args.a.now in
    let b = c.args.b.now in
    let v = c.word_without-x.ensures in
    let w = c.word_without-y.ensures in
    let h = promised c.cmp.result _ _ _
    (decided c.cmp.result _ _ _ _ (ranked _ _ c.cmp.result c.cmp.ensures) c.if-x-y.true
    (λ l. below o a b c.requires c.loop-k.k (omega arith) c.loop-k.invariant (omega arith))
    (λ l. below o b a (sym c.requires) c.loop-k.k (omega arith) (λ m h. sym (c.loop-k.invariant m h)) (omega arith)))
    (compared-to o a b c.requires c.loop-k.k (omega arith) c.loop-k.invariant (λ e. c.if-x-y.true (v ∙ e ∙ sym w))) in
    record { order_value = h.0; means = h.1.0; pairs_value = h.1.1 }

pub loop-k-preserved : goal.loop-k-preserved
loop-k-preserved c =
    -- the words at k differ in the left-out bit alone, or not at all
    let e : _ ≡ _ =
    elim c.if-a-k.branch [ then-a-k+else-x-y w ↦ sym w.word_without-x.ensures ∙ w.if-x-y.false ∙ w.word_without-y.ensures | else-a-k w ↦ ap (word_without c.args.left_out c.loop-k.k) w.if-a-k.false ] in
    below_more _ _ c.loop-k.invariant e

pub returns : goal.returns
returns c =
    let o = c.args.left_out in
    let a = c.args.a.now in
    let b = c.args.b.now in
    let h = promised Equal _ _ _ (level o a b c.requires (λ m h. c.loop-k.invariant m (omega arith))) (all-compared o a b c.requires (λ m h. c.loop-k.invariant m (omega arith))) in
    record { order_value = h.0; means = h.1.0; pairs_value = h.1.1 }
