-- Two parts of records under way into one store, the second from record n0 on: what is left to
-- write, and that a record put in its place leaves the rest. The repartition and the gate write so.
-- Assumes nothing.
use Rattle.std.specs.Prelude.{◌≡◌, ℕ, ◌+◌, ◌*◌, ◌≤◌, Bool, cond, length}
use Rattle.std.proofs.Math.Path.{sym}
use Rattle.std.proofs.Common.{ap, ◌∙◌, arith, add-one, suc-mul, zero-mul, add-zero, zero-add}
use Rattle.std.proofs.Math.Nat.{add_assoc}
use mathlib.Core.List.{List, [], ◌∷◌, ◌++◌}
use Rattle.std.proofs.Math.Bool.{true, false}
use Rattle.std.specs.Bool.{beq}
use Rattle.std.proofs.Math.Seq.{sets, length-sets}
use Rattle.keys.specs.Laws.{sets-append, sets-comm}
use Rattle.merge.specs.Records.{flat}
use Rattle.merge.specs.Sorting.{choose}
use Rattle.merge.specs.Laws.Records.{WholeRecords, flat-length, record-below}

-- o0 and o1 records of the two parts stand in `back`. With C and S, which are left, written after
-- them it is `final`
pub record Left (n n0 n1 : ℕ) (final : List ℕ) (C S : List (List ℕ)) (o0 o1 : ℕ) (back : List ℕ) : Type 0 where
  pub size0 : o0 + length C ≡ n0
  pub size1 : o1 + length S ≡ n1
  pub room : n0 * (n + 2) + n1 * (n + 2) ≤ length back
  pub ends : sets (sets back (n0 * (n + 2) + o1 * (n + 2)) (flat S)) (o0 * (n + 2)) (flat C) ≡ final

-- what is left of one part before a record of part b is dealt with, which is next of that part
-- where it is kept
abbrev pub next : Bool → Bool → Bool → List ℕ → List (List ℕ) → List (List ℕ)
next b kept part r rs = choose (cond (beq b part) kept false) (r ∷ rs) rs

-- where it goes: as record o1 of part 1, which begins at record n0, or as record o0 of part 0
abbrev pub spot : ℕ → ℕ → ℕ → ℕ → Bool → ℕ
spot n n0 o0 o1 b = cond b (n0 * (n + 2) + o1 * (n + 2)) (o0 * (n + 2))

-- where the record after record k begins
one_more : (n k : ℕ) → (k + 1) * (n + 2) ≡ k * (n + 2) + (n + 2)
one_more n k = rw add-one (suc-mul k (n + 2))

-- a record of m words stored, and the rest after it
sets-record : (l : List ℕ) (i : ℕ) (r rest : List ℕ) (m : ℕ) → length r ≡ m → sets l i (r ++ rest) ≡ sets (sets l i r) (i + m) rest
sets-record l i r rest m e = sets-append l i r rest ∙ ap (λ (k : ℕ). sets (sets l i r) (i + k) rest) e

module _ (n n0 n1 : ℕ) (final : List ℕ) (r : List ℕ) (C S : List (List ℕ)) (o0 o1 : ℕ) (back : List ℕ) where
  -- its place is in the store
  pub put-room : (b : Bool) → Left n n0 n1 final (next b true false r C) (next b true true r S) o0 o1 back
      → cond b (n0 * (n + 2) + (o1 * (n + 2) + (n + 2))) (o0 * (n + 2) + (n + 2)) ≤ length back
  put-room false p = let c = p.size0 in omega (arith, record-below n o0 n0 (omega arith), p.room)
  put-room true p = let c = p.size1 in omega (arith, record-below n o1 n1 (omega arith), p.room)

  -- with it there, where it is kept, the others are left
  pub put : (b kept : Bool) → Left n n0 n1 final (next b kept false r C) (next b kept true r S) o0 o1 back → length r ≡ n + 2
      → Left n n0 n1 final C S (cond b o0 (o0 + cond kept 1 0)) (cond b (o1 + cond kept 1 0) o1) (cond kept (sets back (spot n n0 o0 o1 b) r) back)
  unfolding flat
  put false false p w = rw (add-zero o0) p
  put true false p w = rw (add-zero o1) p
  put false true p w =
      let c = p.size0 in
      let h = record-below n o0 n0 (omega arith) in
      record {
        size0 = omega arith;
        size1 = p.size1;
        room = rw (length-sets back (o0 * (n + 2)) r) p.room;
        ends =
            rw (one_more n o0)
            (ap (λ (m : List ℕ). sets m (o0 * (n + 2) + (n + 2)) (flat C)) (sym (sets-comm back (o0 * (n + 2)) r (n0 * (n + 2) + o1 * (n + 2)) (flat S) (omega arith)))
            ∙ sym (sets-record (sets back (n0 * (n + 2) + o1 * (n + 2)) (flat S)) (o0 * (n + 2)) r (flat C) (n + 2) w)
            ∙ p.ends);
      }
  put true true p w =
      let c = p.size1 in
      record {
        size0 = p.size0;
        size1 = omega arith;
        room = rw (length-sets back (n0 * (n + 2) + o1 * (n + 2)) r) p.room;
        ends =
            rw (one_more n o1, ← add_assoc (n0 * (n + 2)) (o1 * (n + 2)) (n + 2))
            (ap (λ (m : List ℕ). sets m (o0 * (n + 2)) (flat C)) (sym (sets-record back (n0 * (n + 2) + o1 * (n + 2)) r (flat S) (n + 2) w)) ∙ p.ends);
      }

-- nothing is left: the store is what it was to be
pub put_all : (n n0 n1 : ℕ) (final : List ℕ) (o0 o1 : ℕ) (back : List ℕ) → Left n n0 n1 final [] [] o0 o1 back → back ≡ final
unfolding flat
put_all n n0 n1 final o0 o1 back p = p.ends

-- all is left
pub put-none : (n n0 n1 : ℕ) (C S : List (List ℕ)) (back : List ℕ) → WholeRecords n C → n0 ≡ length C → n1 ≡ length S → n0 * (n + 2) + n1 * (n + 2) ≤ length back
    → Left n n0 n1 (sets back 0 (flat C ++ flat S)) C S 0 0 back
put-none n n0 n1 C S back w e f h =
    let l : length (flat C) ≡ n0 * (n + 2) = flat-length n C w ∙ ap (λ (k : ℕ). k * (n + 2)) (sym e) in
    record {
      size0 = rw zero-add (sym e);
      size1 = rw zero-add (sym f);
      room = h;
      ends =
          rw (zero-mul (n + 2), add-zero (n0 * (n + 2)))
          (sets-comm back 0 (flat C) (n0 * (n + 2)) (flat S) (omega (arith, l))
          ∙ ap (λ (k : ℕ). sets (sets back 0 (flat C)) k (flat S)) (sym l ∙ sym (zero-add (length (flat C))))
          ∙ sym (sets-append back 0 (flat C) (flat S)));
    }
