-- Where a walk along both parts is, in the words that the code has, and what the pair merge tells
-- there. For the proofs of the passes that go by it. Assumes nothing.
use Rattle.std.specs.Prelude.{◌≡◌, refl, ℕ, ◌+◌, ◌-◌, ◌*◌, ◌<◌, ◌≤◌, List, true, length}
use Rattle.std.proofs.Common.{sym, ap, ◌∙◌, arith, add-one, suc-mul, zero-mul, mul-le-mul_right, le_trans}
use Rattle.keys.specs.Lists.{All}
use Rattle.merge.specs.declared.MergeEq.{MergeEq}
use Rattle.merge.specs.declared.places.NextEq.{NextEq}
use Rattle.merge.specs.declared.places.NextEq.TheVariants as next
use Rattle.merge.specs.Records.{record_from, part, finite_record}
use Rattle.merge.specs.Laws.Records.{record-below, below_end, record-from, part-each}
use Rattle.merge.specs.Laws.Pairs.{here, Ahead, ahead_of, AnswerSays, answer-says}
use Rattle.merge.specs.Pairs.{next_eq_of, answer_of, Readable}

abbrev pub Finite : ℕ → List (List ℕ) → Type 0
Finite n rs = All (λ (r : List ℕ). finite_record n r ≡ true) rs

-- word x is where record r begins, of records that end before record e
pub record Place (n e x : ℕ) : Type 0 where
  pub r : ℕ
  pub at : x ≡ r * (n + 2)
  pub within : r ≤ e

module _ (n e x : ℕ) (p : Place n e x) where
  pub place-below : x < e * (n + 2) → p.r < e
  place-below h = below_end n p.r e x (e * (n + 2)) p.at refl h

  -- where there is a record: its words, the place of the next one, and its words if it is there
  module _ (h : p.r < e) where
    pub place-words : x + (n + 2) ≤ e * (n + 2)
    place-words = rw p.at (record-below n p.r e h)

    pub next_word : x + (n + 2) ≡ (p.r + 1) * (n + 2)
    next_word = rw (p.at, add-one) (sym (suc-mul p.r (n + 2)))

    abbrev pub place-next : Place n e (x + (n + 2))
    place-next = record { r = p.r + 1; at = next_word; within = omega arith }

    pub place_after : x + (n + 2) < e * (n + 2) → x + (n + 2) + n ≤ e * (n + 2)
    place_after l = let w = next_word in omega (arith, record-below n (p.r + 1) e (below_end n (p.r + 1) e (x + (n + 2)) (e * (n + 2)) next_word refl l))

-- the records from word x on, to record e0, and from word y on, to record e1, are left
pub record Going (n e0 e1 x y : ℕ) : Type 0 where
  pub lhs-place : Place n e0 x
  pub rhs-place : Place n e1 y
  pub after : e0 ≤ rhs-place.r

abbrev pub going-none : (n e0 e1 : ℕ) → e0 ≤ e1 → Going n e0 e1 0 (e0 * (n + 2))
going-none n e0 e1 h = record { lhs-place = record { r = 0; at = sym (zero-mul (n + 2)); within = omega arith }; rhs-place = record { r = e0; at = refl; within = h }; after = omega arith }

module _ (n e0 e1 x y : ℕ) (w : Going n e0 e1 x y) where
  abbrev pub i : ℕ
  i = w.lhs-place.r

  abbrev pub j : ℕ
  j = w.rhs-place.r

  -- a record further in one part, or in both
  abbrev pub on-lhs : i < e0 → Going n e0 e1 (x + (n + 2)) y
  on-lhs h = record { lhs-place = place-next n e0 x w.lhs-place h; rhs-place = w.rhs-place; after = w.after }

  abbrev pub on-rhs : j < e1 → Going n e0 e1 x (y + (n + 2))
  on-rhs l = record { lhs-place = w.lhs-place; rhs-place = place-next n e1 y w.rhs-place l; after = let v = w.after in omega arith }

  abbrev pub on_both : i < e0 → j < e1 → Going n e0 e1 (x + (n + 2)) (y + (n + 2))
  on_both h l = record { lhs-place = place-next n e0 x w.lhs-place h; rhs-place = place-next n e1 y w.rhs-place l; after = let v = w.after in omega arith }

  -- so many words are left; with a record less they are fewer
  abbrev pub words_left : ℕ
  words_left = (e0 * (n + 2) - x) + (e1 * (n + 2) - y)

  pub less-lhs : i < e0 → (e0 * (n + 2) - (x + (n + 2))) + (e1 * (n + 2) - y) < words_left
  less-lhs h = omega (arith, place-words n e0 x w.lhs-place h)

  pub less-rhs : j < e1 → (e0 * (n + 2) - x) + (e1 * (n + 2) - (y + (n + 2))) < words_left
  less-rhs l = omega (arith, place-words n e1 y w.rhs-place l)

  pub less_both : i < e0 → j < e1 → (e0 * (n + 2) - (x + (n + 2))) + (e1 * (n + 2) - (y + (n + 2))) < words_left
  less_both h l = omega (arith, place-words n e0 x w.lhs-place h, place-words n e1 y w.rhs-place l)

  module _ (q : ℕ) (ws : List ℕ) where
    -- what the two functions of the pair merge tell here
    abbrev pub AheadHere : NextEq → Type 0
    AheadHere = Ahead n q ws i e0 j e1

    abbrev pub AnswerSaysHere : MergeEq → Type 0
    AnswerSaysHere = AnswerSays n q ws i e0 j e1

    pub ahead-here : (t : NextEq) → t ≡ next_eq_of (here n q ws i e0 j e1) → AheadHere t
    ahead-here = ahead_of n q ws i e0 j e1

    pub answer-says-here : (m : MergeEq) → m ≡ answer_of n (here n q ws i e0 j e1) → AnswerSaysHere m
    answer-says-here = answer-says n q ws i e0 j e1

  -- a store that has the words of both parts
  module _ (ws : List ℕ) (h : e0 ≤ e1) (room : e1 * (n + 2) ≤ length ws) where
    pub whole-lhs : i < e0 → x + (n + 2) ≤ length ws
    whole-lhs l = le_trans (place-words n e0 x w.lhs-place l) (le_trans (mul-le-mul_right (n + 2) h) room)

    pub whole-rhs : j < e1 → y + (n + 2) ≤ length ws
    whole-rhs l = le_trans (place-words n e1 y w.rhs-place l) room

    -- what `next_eq` requires
    pub keys-there : (x < e0 * (n + 2) → x + n ≤ length ws) × (y < e1 * (n + 2) → y + n ≤ length ws)
    keys-there = (λ l. omega (arith, whole-lhs (place-below n e0 x w.lhs-place l)), λ l. omega (arith, whole-rhs (place-below n e1 y w.rhs-place l)))

    -- and `merge_eq`, of records that are finite
    module _ (f0 : Finite n (part n ws 0 e0)) (f1 : Finite n (part n ws e0 e1)) where
      pub finite-lhs : i < e0 → finite_record n (record_from n ws x) ≡ true
      finite-lhs l = ap (finite_record n) (record-from n i x ws w.lhs-place.at) ∙ part-each (λ (r : List ℕ). finite_record n r ≡ true) n ws 0 i e0 (omega arith) l f0

      pub finite-rhs : j < e1 → finite_record n (record_from n ws y) ≡ true
      finite-rhs l = ap (finite_record n) (record-from n j y ws w.rhs-place.at) ∙ part-each (λ (r : List ℕ). finite_record n r ≡ true) n ws e0 j e1 w.after l f1

      pub readable-here : (q : ℕ) (t : NextEq) → Ahead n q ws i e0 j e1 t → Readable n ws x y t
      readable-here q next.Lhs a = (whole-lhs a.0, finite-lhs a.0)
      readable-here q next.Rhs a = (whole-rhs a.0, finite-rhs a.0)
      readable-here q next.Both a = ((whole-lhs a.0, finite-lhs a.0), (whole-rhs a.1, finite-rhs a.1))
      readable-here q next.End a = tt
