-- Records on their way to the two sides of a store. For the proof of `merge_distinct`. Assumes
-- nothing.
use Rattle.std.proofs.Common.{◌≡◌, ℕ, ◌+◌, ◌*◌, ◌≤◌, List, [], ◌∷◌, Bool, true, false, cond, length, arith}
use Rattle.std.proofs.lemmas.List.Edits.{sets}
use Rattle.merge.specs.Records.{record_bit}
use Rattle.merge.specs.Laws.{next_place, Left, next, spot, put-room, put, put_all, side-none, side-some}
use Rattle.merge.specs.Sorting.{side}

-- the records that are left, each to its side
abbrev pub Pending : ℕ → ℕ → ℕ → ℕ → List ℕ → List (List ℕ) → ℕ → ℕ → List ℕ → Type 0
Pending n q n0 n1 final rs o0 o1 back = Left n n0 n1 final (side n q false rs) (side n q true rs) o0 o1 back

module _ (n q n0 n1 : ℕ) (final : List ℕ) (rs : List (List ℕ)) (o0 o1 : ℕ) (back : List ℕ) where
  -- the first of them is next of the side of its bit
  pub pending_next : (r : List ℕ) (b : Bool) → record_bit n q r ≡ b → Pending n q n0 n1 final (r ∷ rs) o0 o1 back
      → Left n n0 n1 final (next b true false r (side n q false rs)) (next b true true r (side n q true rs)) o0 o1 back
  pending_next r true e p = rw (side-some n q false r rs, side-some n q true r rs, e) at p
  pending_next r false e p = rw (side-some n q false r rs, side-some n q true r rs, e) at p

  -- with it put in its place, the others are on their way
  pub pending-put : (r : List ℕ) (b : Bool) → record_bit n q r ≡ b → Pending n q n0 n1 final (r ∷ rs) o0 o1 back → length r ≡ n + 2 → (back' : List ℕ) → back' ≡ sets back (spot n n0 o0 o1 b) r
      → Pending n q n0 n1 final rs (cond b o0 (o0 + 1)) (cond b (o1 + 1) o1) back'
  pending-put r b e p l back' d = rw d (put n n0 n1 final r (side n q false rs) (side n q true rs) o0 o1 back b true (pending_next r b e p) l)

  -- none is left
  pub pending-all : rs ≡ [] → Pending n q n0 n1 final rs o0 o1 back → back ≡ final
  pending-all e p = put_all n n0 n1 final o0 o1 back (rw (e, side-none n q false, side-none n q true) at p)

-- the same in words: o0 and o1 words of the two parts stand in `back`
pub record Going (n q n0 n1 : ℕ) (final : List ℕ) (rs : List (List ℕ)) (o0 o1 : ℕ) (back : List ℕ) : Type 0 where
  pub k0 : ℕ
  pub k1 : ℕ
  pub at-0 : o0 ≡ k0 * (n + 2)
  pub at_1 : o1 ≡ k1 * (n + 2)
  pub left : Pending n q n0 n1 final rs k0 k1 back

-- as many words as records of either part
moved : (n : ℕ) (b : Bool) (o o' k k' : ℕ) → o ≡ k * (n + 2) → o' ≡ k' * (n + 2) → cond b o o' ≡ cond b k k' * (n + 2)
moved n true o o' k k' p q = p
moved n false o o' k k' p q = q

module _ (n q n0 n1 : ℕ) (final : List ℕ) (left : List (List ℕ)) (o0 o1 : ℕ) (back : List ℕ) (g : Going n q n0 n1 final left o0 o1 back)
    (r : List ℕ) (rs : List (List ℕ)) (s : left ≡ r ∷ rs) (b : Bool) (e : record_bit n q r ≡ b) where
  first : Pending n q n0 n1 final (r ∷ rs) g.k0 g.k1 back
  first = rw s at g.left

  -- the place of the first of them is in the store
  pub going-room : cond b (n0 * (n + 2) + (o1 + (n + 2))) (o0 + (n + 2)) ≤ length back
  going-room = rw (g.at-0, g.at_1) (put-room _ _ _ _ _ _ _ _ _ _ b (pending_next _ _ _ _ _ _ _ _ _ _ b e first))

  -- with it there, the others are on their way
  pub going_on : length r ≡ n + 2 → (back' : List ℕ) → back' ≡ sets back (cond b (n0 * (n + 2) + o1) o0) r
      → Going n q n0 n1 final rs (cond b o0 (o0 + (n + 2))) (cond b (o1 + (n + 2)) o1) back'
  going_on l back' d =
      let m0 = next_place n g.k0 in
      let m1 = next_place n g.k1 in
      record {
        k0 = cond b g.k0 (g.k0 + 1);
        k1 = cond b (g.k1 + 1) g.k1;
        at-0 = moved n b o0 (o0 + (n + 2)) g.k0 (g.k0 + 1) g.at-0 (let h = g.at-0 in omega arith);
        at_1 = moved n b (o1 + (n + 2)) o1 (g.k1 + 1) g.k1 (let h = g.at_1 in omega arith) g.at_1;
        left = pending-put _ _ _ _ _ _ _ _ _ _ b e first l back' (rw (g.at-0, g.at_1) at d);
      }
