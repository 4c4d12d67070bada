-- `merge::pairs::walk`: `next` gives the first of the pairs that are left. Assumes nothing.
use Rattle.std.specs.declared.cmp.Ordering.{Ordering}
use Rattle.std.specs.declared.cmp.Ordering.TheVariants.{Less, Equal, Greater}
use Rattle.std.proofs.Common.{◌≡◌, refl, ℕ, true, List, [], ◌∷◌, take, sym, ap, ap₂, ◌∙◌}
use Rattle.keys.specs.Keys.{order, clear}
use Rattle.merge.specs.Records.{records}
use Rattle.merge.specs.declared.pairs.Pairs.{Pairs}
use Rattle.merge.specs.Pairs.{Pair, lhs, rhs, both, by_order, pairs, unpaired_count}
use Rattle.merge.specs.Walks.{pairs_left}
use Rattle.merge.specs.Laws.{pairs-none, pairs-first, pairs-second, pairs-next, pairs-partners, partners-left, yields-one}
use Rattle.merge.proofs.pairs.walk.PairsIterator.next.Goals.{After-compare}
use Rattle.merge.proofs.pairs.walk.PairsIterator.next.Goals as goal

-- what is left, by the first records of both parts
module _ (s : Pairs) where
  abbrev after : List (List ℕ) → List (List ℕ) → List Pair
  after l r = pairs s.n s.q l r

  left-lhs : (x : List ℕ) (xs : List (List ℕ)) → records s.n s.lhs.now ≡ x ∷ xs → records s.n s.rhs.now ≡ [] → pairs_left s ≡ lhs x ∷ after xs (records s.n s.rhs.now)
  left-lhs x xs f g = ap₂ after f g ∙ pairs-first s.n s.q x xs ∙ ap (λ (r : List (List ℕ)). lhs x ∷ after xs r) (sym g)

  left-rhs : (y : List ℕ) (ys : List (List ℕ)) → records s.n s.lhs.now ≡ [] → records s.n s.rhs.now ≡ y ∷ ys → pairs_left s ≡ rhs y ∷ after (records s.n s.lhs.now) ys
  left-rhs y ys f g = ap₂ after f g ∙ pairs-second s.n s.q y ys ∙ ap (λ (l : List (List ℕ)). rhs y ∷ after l ys) (sym f)

  left-partners : (x y : List ℕ) (xs ys : List (List ℕ)) → s.paired ≡ true → records s.n s.lhs.now ≡ x ∷ xs → records s.n s.rhs.now ≡ y ∷ ys → pairs_left s ≡ both x y ∷ after xs ys
  left-partners x y xs ys h f g = ap₂ after f g ∙ pairs-partners s.n s.q x y xs ys (sym (ap unpaired_count (ap₂ after f g)) ∙ s.partners h)

  left-order : (x y : List ℕ) (xs ys : List (List ℕ)) (o : Ordering) → o ≡ order (clear s.q (take s.n x)) (clear s.q (take s.n y)) → records s.n s.lhs.now ≡ x ∷ xs → records s.n s.rhs.now ≡ y ∷ ys
      → pairs_left s ≡ by_order o (lhs x ∷ after xs (records s.n s.rhs.now)) (both x y ∷ after xs ys) (rhs y ∷ after (records s.n s.lhs.now) ys)
  left-order x y xs ys o e f g =
      ap₂ after f g ∙ pairs-next s.n s.q x y xs ys o e
      ∙ ap₂ (λ (l r : List (List ℕ)). by_order o (lhs x ∷ after xs r) (both x y ∷ after xs ys) (rhs y ∷ after l ys)) (sym f) (sym g)

-- each that is left has a partner where each has one
partners : (s : Pairs) (p : Pair) (ps : List Pair) → pairs_left s ≡ p ∷ ps → s.paired ≡ true → unpaired_count ps ≡ 0
partners s p ps e h = partners-left p ps (sym (ap unpaired_count e) ∙ s.partners h)

-- where both parts have a record left
told : (c : After-compare) (o : Ordering) → c.compare.result.order ≡ o → let s = c.args.self.now in let x = c.in-Some.x.words.now in let y = c.in-Some-split_first-2.y.words.now in
    let xs = records s.n c.in-Some.after_x.now in let ys = records s.n c.in-Some-split_first-2.after_y.now in
    pairs_left s ≡ by_order o (lhs x ∷ pairs s.n s.q xs (records s.n s.rhs.now)) (both x y ∷ pairs s.n s.q xs ys) (rhs y ∷ pairs s.n s.q (records s.n s.lhs.now) ys)
told c o e =
    let s = c.args.self.now in
    let k = c.in-Some.ensures.some in
    let l = c.in-Some-split_first-2.ensures.some in
    left-order s _ _ _ _ o
    (sym e ∙ c.compare.ensures.order_value ∙ ap₂ (λ (k l : List ℕ). order (clear s.q k) (clear s.q l))
    (c.key.ensures ∙ ap (λ (m : ℕ). take m c.in-Some.x.words.now) k.0)
    (c.key-2.ensures ∙ ap (λ (m : ℕ). take m c.in-Some-split_first-2.y.words.now) l.0))
    k.1 l.1

pub returns-in_default-split_first-clause-steps : goal.returns-in_default-split_first-clause-steps
returns-in_default-split_first-clause-steps c =
    let s = c.args.self.now in
    let e = ap₂ (pairs s.n s.q) c.in_default.ensures.none c.in_default-split_first.ensures.none ∙ pairs-none s.n s.q in
    ((e, e), refl, refl)

pub invariant_of-self : goal.invariant_of-self
invariant_of-self c =
    let s = c.args.self.now in
    record { small = s.small; partners = partners s _ _ (left-rhs s _ _ c.in_default.ensures.none c.in-Some-split_first.ensures.some.1) }

pub returns-in_default-clause-steps : goal.returns-in_default-clause-steps
returns-in_default-clause-steps c = (left-rhs c.args.self.now _ _ c.in_default.ensures.none c.in-Some-split_first.ensures.some.1, refl, refl)

pub returns-in_default-clause-goes : goal.returns-in_default-clause-goes
returns-in_default-clause-goes c = yields-one _ _ _ _ _ (returns-in_default-clause-steps c).0

pub invariant_of-self-in_default-split_first-2 : goal.invariant_of-self-in_default-split_first-2
invariant_of-self-in_default-split_first-2 c =
    let s = c.args.self.now in
    record { small = s.small; partners = partners s _ _ (left-lhs s _ _ c.in-Some.ensures.some.1 c.in_default-split_first-2.ensures.none) }

pub returns-in_default-split_first-2-clause-steps : goal.returns-in_default-split_first-2-clause-steps
returns-in_default-split_first-2-clause-steps c = (left-lhs c.args.self.now _ _ c.in-Some.ensures.some.1 c.in_default-split_first-2.ensures.none, refl, refl)

pub returns-in_default-split_first-2-clause-goes : goal.returns-in_default-split_first-2-clause-goes
returns-in_default-split_first-2-clause-goes c = yields-one _ _ _ _ _ (returns-in_default-split_first-2-clause-steps c).0

pub invariant_of-self-then-self : goal.invariant_of-self-then-self
invariant_of-self-then-self c =
    let s = c.args.self.now in
    record { small = s.small; partners = partners s _ _ (left-partners s _ _ _ _ c.if-self.true c.in-Some.ensures.some.1 c.in-Some-split_first-2.ensures.some.1) }

pub returns-then-self-clause-steps : goal.returns-then-self-clause-steps
returns-then-self-clause-steps c = (left-partners c.args.self.now _ _ _ _ c.if-self.true c.in-Some.ensures.some.1 c.in-Some-split_first-2.ensures.some.1, refl, refl)

pub returns-then-self-clause-goes : goal.returns-then-self-clause-goes
returns-then-self-clause-goes c = yields-one _ _ _ _ _ (returns-then-self-clause-steps c).0

pub returns-in-Less-clause-steps : goal.returns-in-Less-clause-steps
returns-in-Less-clause-steps c = (told (goal.at.returns-in-Less-clause-steps c).After-compare Less c.in-Less.is, refl, refl)

pub returns-in-Less-clause-goes : goal.returns-in-Less-clause-goes
returns-in-Less-clause-goes c = yields-one _ _ _ _ _ (returns-in-Less-clause-steps c).0

pub returns-in-Equal-clause-steps : goal.returns-in-Equal-clause-steps
returns-in-Equal-clause-steps c = (told (goal.at.returns-in-Equal-clause-steps c).After-compare Equal c.in-Equal.is, refl, refl)

pub returns-in-Equal-clause-goes : goal.returns-in-Equal-clause-goes
returns-in-Equal-clause-goes c = yields-one _ _ _ _ _ (returns-in-Equal-clause-steps c).0

pub returns-in-Greater-clause-steps : goal.returns-in-Greater-clause-steps
returns-in-Greater-clause-steps c = (told (goal.at.returns-in-Greater-clause-steps c).After-compare Greater c.in-Greater.is, refl, refl)

pub returns-in-Greater-clause-goes : goal.returns-in-Greater-clause-goes
returns-in-Greater-clause-goes c = yields-one _ _ _ _ _ (returns-in-Greater-clause-steps c).0
