-- `merge::places::next_eq` meets its contract. Assumes nothing.
use Prim.Native.Nat.{ℕ, ◌+◌, ◌-◌, ◌*◌}
use mathlib.Core.Path.{◌≡◌, sym, ap, ap₂, ◌∙◌}
use mathlib.Core.List.{List, ◌∷◌}
use mathlib.Core.Bool.{true}
use native.Mathlib.Omega.{arith}
use lib.ListN.{take, drop}
use Rattle.std.specs.declared.cmp.Ordering.{Ordering}
use Rattle.std.specs.declared.cmp.Ordering.TheVariants.{Less, Equal, Greater}
use Rattle.keys.specs.Keys.{order, clear, key_at}
use Rattle.merge.specs.declared.places.NextEq.{NextEq}
use Rattle.merge.specs.declared.places.NextEq.TheVariants as next
use Rattle.merge.specs.Laws.{below_end, past_end, here, paired-next, pairs-both, pairs-lhs, pairs-rhs, pairs_end}
use Rattle.merge.specs.Pairs.{Pair, lhs, rhs, both, by_order, unpaired_count, next_eq_of}
use Rattle.merge.proofs.places.next_eq.Goals.{After-compare}
use Rattle.merge.proofs.places.next_eq.Goals as goal

abbrev chosen : Ordering → NextEq
chosen Less = next.Lhs
chosen Equal = next.Both
chosen Greater = next.Rhs

-- the key that the code cuts out
cut : (n at : ℕ) (ws : List ℕ) → take (at + n - at) (drop at ws) ≡ key_at n ws at
cut n at ws = ap (λ (k : ℕ). take k (drop at ws)) (omega arith)

-- the order of the two keys that the code compared
ordered : (c : After-compare) (o : Ordering) → c.compare.result.order ≡ o → let a = c.args in
    (i j : ℕ) → a.x ≡ i * (a.n + 2) → a.y ≡ j * (a.n + 2) → o ≡ order (clear a.q (key_at a.n a.ws.now (i * (a.n + 2)))) (clear a.q (key_at a.n a.ws.now (j * (a.n + 2))))
ordered c o e i j p r =
    let a = c.args in
    rw (← p, ← r) (sym e ∙ c.compare.ensures.order_value ∙ ap₂ (λ (k l : List ℕ). order (clear a.q k) (clear a.q l)) (cut a.n a.x a.ws.now) (cut a.n a.y a.ws.now))

next-is : (o : Ordering) (x y : List ℕ) (ps qs rs us : List Pair) → us ≡ by_order o (lhs x ∷ ps) (both x y ∷ qs) (rhs y ∷ rs) → next_eq_of us ≡ chosen o
next-is Less x y ps qs rs us e = ap next_eq_of e
next-is Equal x y ps qs rs us e = ap next_eq_of e
next-is Greater x y ps qs rs us e = ap next_eq_of e

-- by the order, what comes next
told : (c : After-compare) (o : Ordering) → c.compare.result.order ≡ o → let a = c.args in
    (i e0 j e1 : ℕ) → a.x ≡ i * (a.n + 2) → a.end0 ≡ e0 * (a.n + 2) → a.y ≡ j * (a.n + 2) → a.end1 ≡ e1 * (a.n + 2)
    → (a.paired ≡ true → unpaired_count (here a.n a.q a.ws.now i e0 j e1) ≡ 0) → chosen o ≡ next_eq_of (here a.n a.q a.ws.now i e0 j e1)
told c o e i e0 j e1 p r s t z =
    let a = c.args in
    sym (next-is o _ _ _ _ _ _ (pairs-both a.n a.q a.ws.now i e0 j e1 (below_end a.n i e0 _ _ p r c.if-x-end0.true) (below_end a.n j e1 _ _ s t c.if-y-end1.true) o (ordered c o e i j p s)))

pub returns-then-paired : goal.returns-then-paired
returns-then-paired c =
    λ i e0 j e1 p r s t z.
    let a = c.args in
    sym (paired-next a.n a.q a.ws.now i e0 j e1 (below_end a.n i e0 _ _ p r c.if-x-end0.true) (below_end a.n j e1 _ _ s t c.if-y-end1.true) (z c.if-paired.true))

pub returns-in-Less : goal.returns-in-Less
returns-in-Less c =
    told (goal.at.returns-in-Less c).After-compare Less c.in-Less.is

pub returns-in-Equal : goal.returns-in-Equal
returns-in-Equal c =
    told (goal.at.returns-in-Equal c).After-compare Equal c.in-Equal.is

pub returns-in-Greater : goal.returns-in-Greater
returns-in-Greater c =
    told (goal.at.returns-in-Greater c).After-compare Greater c.in-Greater.is

pub returns-then-x-end0 : goal.returns-then-x-end0
returns-then-x-end0 c =
    λ i e0 j e1 p r s t z.
    let a = c.args in
    sym (ap next_eq_of (pairs-lhs a.n a.q a.ws.now i e0 j e1 (below_end a.n i e0 _ _ p r c.if-x-end0.true) (past_end a.n j e1 _ _ s t c.if-y-end1.false)))

pub returns-then-y-end1-2 : goal.returns-then-y-end1-2
returns-then-y-end1-2 c =
    λ i e0 j e1 p r s t z.
    let a = c.args in
    sym (ap next_eq_of (pairs-rhs a.n a.q a.ws.now i e0 j e1 (past_end a.n i e0 _ _ p r c.if-x-end0.false) (below_end a.n j e1 _ _ s t c.if-y-end1-2.true)))

pub returns : goal.returns
returns c =
    λ i e0 j e1 p r s t z.
    let a = c.args in
    sym (ap next_eq_of (pairs_end a.n a.q a.ws.now i e0 j e1 (past_end a.n i e0 _ _ p r c.if-x-end0.false) (past_end a.n j e1 _ _ s t c.if-y-end1-2.false)))
