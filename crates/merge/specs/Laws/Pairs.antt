-- A turn of the pair merge by the indices of records, and what holds in every pair. For the proofs
-- of `next_eq` and what calls it and `merge_eq`. Assumes nothing.
use Rattle.std.specs.declared.cmp.Ordering.{Ordering}
use Rattle.std.specs.declared.cmp.Ordering.TheVariants.{Less, Equal, Greater}
use Rattle.std.specs.Prelude.{◌≡◌, ℕ, ◌+◌, ◌<◌, ◌≤◌, ◌*◌, List, [], ◌∷◌, Bool, true, false, ltb}
use Rattle.std.proofs.Math.Path.{refl, subst}
use Rattle.std.proofs.Common.{sym, ap, arith, ltb-true, ltb-false}
use Rattle.keys.specs.Keys.{order, clear, key_at}
use Rattle.keys.specs.Lists.{All}
use Rattle.merge.specs.declared.MergeEq.{MergeEq}
use Rattle.merge.specs.declared.MergeEq.TheVariants.{Lhs, Rhs, Both, End}
use Rattle.merge.specs.declared.places.NextEq.{NextEq}
use Rattle.merge.specs.declared.places.NextEq.TheVariants as next
use Rattle.merge.specs.Records.{record_at, part, amplitude_of}
use Rattle.merge.specs.Laws.Records.{part_none, part-some, record-key}
use Rattle.merge.specs.Laws.Pairings.{pairs-ind}
use Rattle.merge.specs.Walks.{InPair}
use Rattle.merge.specs.Pairs.{Pair, lhs, rhs, both, by_order, pairs_with, pairs, unpaired_count, next_eq_of, answer_of}

module _ (n q : ℕ) (ws : List ℕ) (i e0 j e1 : ℕ) where
  -- the pairs of the records i .. e0 and j .. e1
  abbrev pub here : List Pair
  here = pairs n q (part n ws i e0) (part n ws j e1)

  -- ---- what is left, by what the code tests

  -- both parts have a record left: the order of their keys without bit q decides
  pub pairs-both : i < e0 → j < e1 → (o : Ordering) → o ≡ order (clear q (key_at n ws (i * (n + 2)))) (clear q (key_at n ws (j * (n + 2))))
      → here ≡ by_order o (lhs (record_at n ws i) ∷ pairs n q (part n ws (i + 1) e0) (part n ws j e1))
      (both (record_at n ws i) (record_at n ws j) ∷ pairs n q (part n ws (i + 1) e0) (part n ws (j + 1) e1))
      (rhs (record_at n ws j) ∷ pairs n q (part n ws i e0) (part n ws (j + 1) e1))
  unfolding pairs pairs_with
  pairs-both h l o e = rw (part-some n ws i e0 h, part-some n ws j e1 l, e, ← record-key n i ws, ← record-key n j ws)

  -- one part is at its end, or both are
  pub pairs-lhs : i < e0 → e1 ≤ j → here ≡ lhs (record_at n ws i) ∷ pairs n q (part n ws (i + 1) e0) (part n ws j e1)
  unfolding pairs pairs_with
  pairs-lhs h l = rw (part-some n ws i e0 h, part_none n ws j e1 l)

  pub pairs-rhs : e0 ≤ i → j < e1 → here ≡ rhs (record_at n ws j) ∷ pairs n q (part n ws i e0) (part n ws (j + 1) e1)
  unfolding pairs
  pairs-rhs h l = rw (part_none n ws i e0 h, part-some n ws j e1 l)

  pub pairs_end : e0 ≤ i → e1 ≤ j → here ≡ []
  unfolding pairs
  pairs_end h l = rw (part_none n ws i e0 h, part_none n ws j e1 l)

  -- ---- what is left, by which part is next

  -- the records that are next are there, and those after them are left
  abbrev pub Ahead : NextEq → Type 0
  Ahead next.Lhs = (i < e0) × (here ≡ lhs (record_at n ws i) ∷ pairs n q (part n ws (i + 1) e0) (part n ws j e1))
  Ahead next.Rhs = (j < e1) × (here ≡ rhs (record_at n ws j) ∷ pairs n q (part n ws i e0) (part n ws (j + 1) e1))
  Ahead next.Both = (i < e0) × (j < e1) × (here ≡ both (record_at n ws i) (record_at n ws j) ∷ pairs n q (part n ws (i + 1) e0) (part n ws (j + 1) e1))
  Ahead next.End = here ≡ []

  -- where both parts have a record left
  ahead-both : i < e0 → j < e1 → (o : Ordering) → o ≡ order (clear q (key_at n ws (i * (n + 2)))) (clear q (key_at n ws (j * (n + 2)))) → Ahead (next_eq_of here)
  ahead-both h l Less e = let f = pairs-both h l Less e in subst Ahead (sym (ap next_eq_of f)) (h, f)
  ahead-both h l Equal e = let f = pairs-both h l Equal e in subst Ahead (sym (ap next_eq_of f)) (h, l, f)
  ahead-both h l Greater e = let f = pairs-both h l Greater e in subst Ahead (sym (ap next_eq_of f)) (l, f)

  -- whatever is left
  ahead : Ahead (next_eq_of here)
  ahead = go (ltb i e0) (ltb j e1) refl refl
    where
      go : (s t : Bool) → ltb i e0 ≡ s → ltb j e1 ≡ t → Ahead (next_eq_of here)
      go true true a b = ahead-both (ltb-true i e0 a) (ltb-true j e1 b) _ refl
      go true false a b = let h = ltb-true i e0 a in let f = pairs-lhs h (ltb-false j e1 b) in subst Ahead (sym (ap next_eq_of f)) (h, f)
      go false true a b = let l = ltb-true j e1 b in let f = pairs-rhs (ltb-false i e0 a) l in subst Ahead (sym (ap next_eq_of f)) (l, f)
      go false false a b = let f = pairs_end (ltb-false i e0 a) (ltb-false j e1 b) in subst Ahead (sym (ap next_eq_of f)) f

  -- by the answer of `next_eq`
  pub ahead_of : (m : NextEq) → m ≡ next_eq_of here → Ahead m
  ahead_of m e = subst Ahead (sym e) ahead

  -- where every record has a partner, both parts are next
  pub paired-next : i < e0 → j < e1 → unpaired_count here ≡ 0 → next_eq_of here ≡ next.Both
  paired-next h l z = go (order (clear q (key_at n ws (i * (n + 2)))) (clear q (key_at n ws (j * (n + 2))))) (pairs-both h l _ refl)
    where
      go : (o : Ordering) → here ≡ by_order o (lhs (record_at n ws i) ∷ pairs n q (part n ws (i + 1) e0) (part n ws j e1))
          (both (record_at n ws i) (record_at n ws j) ∷ pairs n q (part n ws (i + 1) e0) (part n ws (j + 1) e1))
          (rhs (record_at n ws j) ∷ pairs n q (part n ws i e0) (part n ws (j + 1) e1))
          → next_eq_of here ≡ next.Both
      go Less e = absurd (let x = ap unpaired_count e in omega arith)
      go Equal e = ap next_eq_of e
      go Greater e = absurd (let x = ap unpaired_count e in omega arith)

  -- ---- what is left, by what `merge_eq` answers

  -- what `Ahead` says, and the amplitudes are those of the records that are next
  abbrev pub AnswerSays : MergeEq → Type 0
  AnswerSays (Lhs a) = Ahead next.Lhs × (a ≡ amplitude_of n (record_at n ws i))
  AnswerSays (Rhs b) = Ahead next.Rhs × (b ≡ amplitude_of n (record_at n ws j))
  AnswerSays (Both a b) = Ahead next.Both × (a ≡ amplitude_of n (record_at n ws i)) × (b ≡ amplitude_of n (record_at n ws j))
  AnswerSays End = Ahead next.End

  told : (m : NextEq) → Ahead m → AnswerSays (answer_of n here)
  unfolding answer_of
  told next.Lhs a = subst AnswerSays (sym (ap (answer_of n) a.1)) (a, refl)
  told next.Rhs a = subst AnswerSays (sym (ap (answer_of n) a.1)) (a, refl)
  told next.Both a = subst AnswerSays (sym (ap (answer_of n) a.2)) (a, refl, refl)
  told next.End a = subst AnswerSays (sym (ap (answer_of n) a)) a

  -- by the answer of `merge_eq`
  pub answer-says : (m : MergeEq) → m ≡ answer_of n here → AnswerSays m
  answer-says m e = subst AnswerSays (sym e) (told (next_eq_of here) ahead)

-- ---- what is told of a pair

pub answer-lhs : (n : ℕ) (x : List ℕ) (ps : List Pair) → answer_of n (lhs x ∷ ps) ≡ Lhs (amplitude_of n x)
unfolding answer_of
answer-lhs n x ps = refl

pub answer-rhs : (n : ℕ) (y : List ℕ) (ps : List Pair) → answer_of n (rhs y ∷ ps) ≡ Rhs (amplitude_of n y)
unfolding answer_of
answer-rhs n y ps = refl

pub answer-both : (n : ℕ) (x y : List ℕ) (ps : List Pair) → answer_of n (both x y ∷ ps) ≡ Both (amplitude_of n x) (amplitude_of n y)
unfolding answer_of
answer-both n x y ps = refl

pub answer-end : (n : ℕ) → answer_of n [] ≡ End
unfolding answer_of
answer-end n = refl

-- ---- what holds of every record holds in every pair

pub every-pair : (P : List ℕ → Type 0) (n q : ℕ) (xs ys : List (List ℕ)) → All P xs → All P ys → All (InPair P) (pairs n q xs ys)
every-pair P n q =
    pairs-ind n q (λ xs ys ps. All P xs → All P ys → All (InPair P) ps)
    (λ f g. tt)
    (λ y ys ps r f g. (g.0, r f g.1))
    (λ x xs ps r f g. (f.0, r f.1 g))
    (λ x y xs ys ps l r f g. (f.0, r f.1 g))
    (λ x y xs ys ps e r f g. ((f.0, g.0), r f.1 g.1))
    (λ x y xs ys ps l r f g. (g.0, r f g.1))
