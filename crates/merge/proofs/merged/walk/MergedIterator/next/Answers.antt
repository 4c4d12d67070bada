-- `merge::merged::walk`: `next` gives the first of the records that are left. Assumes nothing.
use Rattle.std.specs.declared.cmp.Ordering.{Ordering}
use Rattle.std.specs.declared.cmp.Ordering.TheVariants.{Less, Equal, Greater}
use Rattle.std.specs.Ordering.{is_gt}
use Rattle.std.proofs.Common.{◌≡◌, refl, ℕ, Bool, true, false, not, List, [], ◌∷◌, sym, ap, ap₂, ◌∙◌}
use Rattle.keys.specs.Keys.{order, without}
use Rattle.merge.specs.declared.merged.Merged.{Merged}
use Rattle.merge.specs.Merging.{merged}
use Rattle.merge.specs.Records.{key_of, records}
use Rattle.merge.specs.Sorting.{not_greater, before, choose, sort_key}
use Rattle.merge.specs.Walks.{merged_left}
use Rattle.merge.specs.Laws.{merged-none, merged-first, merged-second, merged-next, yields-one}
use Rattle.merge.proofs.merged.walk.MergedIterator.next.Goals.{After-is_gt}
use Rattle.merge.proofs.merged.walk.MergedIterator.next.Goals as goal

-- what is left, by the first records of both parts
module _ (m : Merged) where
  abbrev after : List (List ℕ) → List (List ℕ) → List (List ℕ)
  after l r = merged (before (sort_key m.n m.left_out)) l r

  left-lhs : (x : List ℕ) (xs : List (List ℕ)) → records m.n m.lhs.now ≡ x ∷ xs → records m.n m.rhs.now ≡ [] → merged_left m ≡ x ∷ after xs (records m.n m.rhs.now)
  left-lhs x xs f g = ap₂ after f g ∙ merged-first _ x xs ∙ ap (λ (r : List (List ℕ)). x ∷ after xs r) (sym g)

  left-rhs : (y : List ℕ) (ys : List (List ℕ)) → records m.n m.lhs.now ≡ [] → records m.n m.rhs.now ≡ y ∷ ys → merged_left m ≡ y ∷ after (records m.n m.lhs.now) ys
  left-rhs y ys f g = ap₂ after f g ∙ merged-second _ y ys ∙ ap (λ (l : List (List ℕ)). y ∷ after l ys) (sym f)

  left-both : (x y : List ℕ) (xs ys : List (List ℕ)) (b : Bool) → b ≡ before (sort_key m.n m.left_out) x y → records m.n m.lhs.now ≡ x ∷ xs → records m.n m.rhs.now ≡ y ∷ ys
      → merged_left m ≡ choose b (x ∷ after xs (records m.n m.rhs.now)) (y ∷ after (records m.n m.lhs.now) ys)
  left-both x y xs ys b e f g =
      ap₂ after f g ∙ merged-next _ x y xs ys b e ∙ ap₂ (λ (l r : List (List ℕ)). choose b (x ∷ after xs r) (y ∷ after l ys)) (sym f) (sym g)

not-gt : (o : Ordering) → not (is_gt o) ≡ not_greater o
not-gt Less = refl
not-gt Equal = refl
not-gt Greater = refl

-- where both parts have a record left
told : (c : After-is_gt) (b : Bool) → c.is_gt.result ≡ b → let m = c.args.self.now in let x = c.in-Some.x.words.now in let y = c.in-Some-split_first-2.y.words.now in
    merged_left m ≡ choose (not b) (x ∷ after m (records m.n c.in-Some.after_x.now) (records m.n m.rhs.now)) (y ∷ after m (records m.n m.lhs.now) (records m.n c.in-Some-split_first-2.after_y.now))
told c b e =
    let m = c.args.self.now in
    let k = c.in-Some.ensures.some in
    let l = c.in-Some-split_first-2.ensures.some in
    left-both m _ _ _ _ (not b)
    (ap not (sym e ∙ c.is_gt.ensures) ∙ not-gt c.compare.result.order
    ∙ ap not_greater
    (c.compare.ensures.order_value ∙ ap₂ (λ (k l : List ℕ). order (without m.left_out k) (without m.left_out l))
    (c.key.ensures ∙ ap (λ (n : ℕ). key_of n c.in-Some.x.words.now) k.0)
    (c.key-2.ensures ∙ ap (λ (n : ℕ). key_of n c.in-Some-split_first-2.y.words.now) l.0)))
    k.1 l.1

pub returns-in_default-split_first-clause-steps : goal.returns-in_default-split_first-clause-steps
returns-in_default-split_first-clause-steps c =
    let e = ap₂ (after c.args.self.now) c.in_default.ensures.none c.in_default-split_first.ensures.none ∙ merged-none _ in
    (e, e)

pub returns-in_default-clause-steps : goal.returns-in_default-clause-steps
returns-in_default-clause-steps c = left-rhs c.args.self.now _ _ c.in_default.ensures.none c.in-Some-split_first.ensures.some.1

pub returns-in_default-clause-goes : goal.returns-in_default-clause-goes
returns-in_default-clause-goes c = yields-one _ _ _ _ _ (returns-in_default-clause-steps c)

pub returns-in_default-split_first-2-clause-steps : goal.returns-in_default-split_first-2-clause-steps
returns-in_default-split_first-2-clause-steps c = left-lhs c.args.self.now _ _ c.in-Some.ensures.some.1 c.in_default-split_first-2.ensures.none

pub returns-in_default-split_first-2-clause-goes : goal.returns-in_default-split_first-2-clause-goes
returns-in_default-split_first-2-clause-goes c = yields-one _ _ _ _ _ (returns-in_default-split_first-2-clause-steps c)

pub returns-then-is_gt-clause-steps : goal.returns-then-is_gt-clause-steps
returns-then-is_gt-clause-steps c = told (goal.at.returns-then-is_gt-clause-steps c).After-is_gt true c.if-is_gt.true

pub returns-then-is_gt-clause-goes : goal.returns-then-is_gt-clause-goes
returns-then-is_gt-clause-goes c = yields-one _ _ _ _ _ (returns-then-is_gt-clause-steps c)

pub returns-else-is_gt-clause-steps : goal.returns-else-is_gt-clause-steps
returns-else-is_gt-clause-steps c = told (goal.at.returns-else-is_gt-clause-steps c).After-is_gt false c.if-is_gt.false

pub returns-else-is_gt-clause-goes : goal.returns-else-is_gt-clause-goes
returns-else-is_gt-clause-goes c = yields-one _ _ _ _ _ (returns-else-is_gt-clause-steps c)
