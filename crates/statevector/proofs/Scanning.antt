-- The full and the quick pass over records, and what the rows before those that read the records
-- answer. For the proofs of the functions of src/tests.rt. Assumes nothing.
use Rattle.std.specs.Ordering.{is_lt}
use Rattle.std.specs.Prelude.{Err, Ok, Option}
use mathlib.Core.Path.{◌≡◌, refl, sym, ap, ◌∙◌}
use Prim.Native.Nat.{ℕ, ◌+◌, ◌/◌, ◌<◌, ◌≤◌}
use native.Mathlib.Omega.{arith}
use mathlib.Core.List.{List, [], ◌∷◌}
use mathlib.Core.Bool.{Bool, true, false, cond, not, ◌&&◌, beq}
use lib.Dec.{ltb}
use lib.ListN.{length, take}
use Rattle.std.proofs.Common.{take-take}
use Rattle.keys.specs.Keys.{listed, order}
use Rattle.merge.specs.Records.{key_of, record_bit, records}
use Rattle.merge.specs.Laws.{records-none, records-some, side-none, side-count, side-fewer, capacity-is}
use Rattle.merge.specs.Sorting.{side}
use Rattle.statevector.specs.declared.Refusal.TheVariants as no
use Rattle.statevector.specs.declared.State.{State}
use Rattle.statevector.specs.declared.tests.Scan.{Scan}
use Rattle.statevector.specs.Refusals.{Test, first}
use Rattle.statevector.specs.Tests.{rises, all_finite, too_many, head_rows}
use Rattle.statevector.specs.declared.Refusal.{Refusal}
use Rattle.statevector.specs.Laws.{first-after, first-before, first-none, first-here, first-later, scan-path}
use Rattle.statevector.specs.Scans.{below_next, scan_one, scan_of, both_scans, sound_one, sound_part}

-- ---- one record

-- the words after it begin with the next one, or hold none
pub below_none : (n : ℕ) (r rest : List ℕ) → length rest < n + 2 → below_next n r (records n rest) ≡ true
below_none n r rest h = ap (below_next n r) (records-none n rest h)

pub below-some : (n : ℕ) (r rest : List ℕ) → n + 2 ≤ length rest → below_next n r (records n rest) ≡ is_lt (order (key_of n r) (take n rest))
below-some n r rest h = ap (below_next n r) (records-some n rest h) ∙ ap (λ (k : List ℕ). is_lt (order (key_of n r) k)) (take-take n (n + 2) rest (omega arith))

-- ---- all records of a part

and_assoc : (a b c : Bool) → ((a && b) && c) ≡ (a && (b && c))
and_assoc true b c = refl
and_assoc false b c = refl

and-end : (a : Bool) → (a && true) ≡ a
and-end true = refl
and-end false = refl

-- findings of three runs
scans-assoc : (x y z : Scan) → both_scans (both_scans x y) z ≡ both_scans x (both_scans y z)
scans-assoc x y z = scan-path (and_assoc x.rises y.rises z.rises) (and_assoc x.sided y.sided z.sided) (and_assoc x.finite y.finite z.finite)

module _ (n : ℕ) (tag : Option ℕ) (b : Bool) where
  -- the first record, and those after it
  scan-cons : (r : List ℕ) (rs : List (List ℕ)) → scan_of n tag b (r ∷ rs) ≡ both_scans (scan_one n tag b r rs) (scan_of n tag b rs)
  unfolding scan_of scan_one rises all_finite
  scan-cons r [] = refl
  scan-cons r (s ∷ rs) = refl

  -- with a record more found, what is left is one record less
  pub scan-some : (left : List (List ℕ)) (r : List ℕ) (rs : List (List ℕ)) → left ≡ r ∷ rs → (found one : Scan) → one ≡ scan_one n tag b r rs
      → both_scans (both_scans found one) (scan_of n tag b rs) ≡ both_scans found (scan_of n tag b left)
  scan-some left r rs e found one d =
      scans-assoc found one (scan_of n tag b rs)
      ∙ ap (both_scans found) (ap (λ (x : Scan). both_scans x (scan_of n tag b rs)) d ∙ sym (scan-cons r rs) ∙ ap (scan_of n tag b) (sym e))

  pub scan-none : (left : List (List ℕ)) → left ≡ [] → (found : Scan) → both_scans found (scan_of n tag b left) ≡ found
  unfolding scan_of rises all_finite
  scan-none left e found = rw e (scan-path (and-end found.rises) (and-end found.sided) (and-end found.finite))

-- ---- the quick pass

one_set : (b : Bool) → ◌≡◌ {A = ℕ} (cond (beq b true) 1 0) (cond b 1 0)
one_set true = refl
one_set false = refl

-- all was well with the records before those that are left, and their bits are counted
pub record Seeing (n q : ℕ) (tag : Option ℕ) (b : Bool) (every left : List (List ℕ)) (ones : ℕ) : Type 0 where
  pub sound : sound_part n tag b left ≡ sound_part n tag b every
  pub count : ones + length (side n q true left) ≡ length (side n q true every)

module _ (n q : ℕ) (tag : Option ℕ) (b : Bool) (every left : List (List ℕ)) (ones : ℕ) (w : Seeing n q tag b every left ones) where
  -- none is left
  pub seen_all : left ≡ [] → (true ≡ sound_part n tag b every) × (ones ≡ length (side n q true every))
  unfolding sound_part
  seen_all e = (sym (ap (sound_part n tag b) e) ∙ w.sound, omega (arith, w.count, ap (λ (rs : List (List ℕ)). length (side n q true rs)) e ∙ ap length (side-none n q true)))

  module _ (r : List ℕ) (rs : List (List ℕ)) (e : left ≡ r ∷ rs) where
    see-cons : sound_part n tag b left ≡ (sound_one n tag b r rs && sound_part n tag b rs)
    unfolding sound_part
    see-cons = ap (sound_part n tag b) e

    pub see-wrong : sound_one n tag b r rs ≡ false → false ≡ sound_part n tag b every
    see-wrong f = sym (sym w.sound ∙ see-cons ∙ ap (λ (x : Bool). x && sound_part n tag b rs) f)

    -- a record more
    pub see-one : sound_one n tag b r rs ≡ true → (k : ℕ) → k ≡ cond (record_bit n q r) 1 0 → Seeing n q tag b every rs (ones + k)
    see-one f k v =
        record {
          sound = sym (see-cons ∙ ap (λ (x : Bool). x && sound_part n tag b rs) f) ∙ w.sound;
          count = omega (arith, w.count, ap (λ (l : List (List ℕ)). length (side n q true l)) e ∙ side-count n q true r rs, one_set (record_bit n q r), v);
        }

  -- no more is counted than there are
  pub see-few : ones ≤ length every
  see-few = omega (arith, w.count, side-fewer n q true every)

-- ---- and the rows before them

module _ (s : State) (front : List ℕ) (own : List Test) where
  pub head-width : listed s.width ≡ false → Err no.Width ≡ first (head_rows s front own)
  unfolding head_rows
  head-width e = sym (first-here (not (listed s.width)) no.Width _ (ap not e))

  module _ (l : listed s.width ≡ true) where
    -- the call's own rows decide, or they don't
    pub head-own : (r : Refusal) → first own ≡ Err r → Err r ≡ first (head_rows s front own)
    unfolding head_rows
    head-own r e = sym (first-later (not (listed s.width)) no.Width _ (ap not l) ∙ first-before own _ r e)

    module _ (o : first own ≡ Ok tt) where
      counted-row : first (head_rows s front own) ≡ first ((too_many s front, no.Count) ∷ [])
      unfolding head_rows
      counted-row = first-later (not (listed s.width)) no.Width _ (ap not l) ∙ first-after own _ o

      pub head-count : too_many s front ≡ true → Err no.Count ≡ first (head_rows s front own)
      head-count e = sym (counted-row ∙ first-here (too_many s front) no.Count _ e)

      pub head-none : too_many s front ≡ false → Ok tt ≡ first (head_rows s front own)
      head-none e = sym (counted-row ∙ first-later (too_many s front) no.Count _ e ∙ first-none)

-- the code's test of the sizes
pub count-is : (s : State) (front : List ℕ) → ltb (length front / (s.width + 2)) (s.n0 + s.n1) ≡ too_many s front
unfolding too_many
count-is s front = ap (λ (k : ℕ). ltb k (s.n0 + s.n1)) (sym (capacity-is s.width front))
