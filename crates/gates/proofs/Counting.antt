-- The counting pass under way: records found sound as they are met, and what is left, counted on,
-- gives the whole. For the proof of `do_u4_count`. Assumes nothing.
use Rattle.std.specs.Prelude.{Option, Some, None}
use mathlib.Core.Path.{◌≡◌, refl, sym, ap, ap₂, ◌∙◌}
use Prim.Native.Nat.{ℕ, ◌+◌, ◌*◌, ◌^◌, ◌<◌, ◌≤◌}
use native.Mathlib.Omega.{arith}
use mathlib.Core.List.{List, [], ◌∷◌}
use mathlib.Core.Bool.{Bool, true, false, cond, ◌&&◌, ◌||◌, false≢true}
use borrow.Author.Tests.{eqb-true}
use lib.Dec.{eqb}
use lib.ListN.{length}
use Rattle.amplitudes.specs.declared.U4.{U4}
use Rattle.amplitudes.specs.Pairs.{is_kept}
use Rattle.merge.specs.declared.record.Record.{Record}
use Rattle.merge.specs.declared.pairs.Pairs.{Pairs}
use Rattle.merge.specs.Records.{records, finite_record, moderate_record}
use Rattle.merge.specs.Walks.{pairs_left}
use Rattle.merge.specs.Laws.{cond-few, pairs-ind, in_pair, own-width, moderate-record, records-few, and-true-l, and_true_r}
use Rattle.merge.specs.Pairs.{Pair, lhs, rhs, both, pairs, unpaired_count}
use Rattle.gates.specs.declared.KeptCounts.{KeptCounts}
use Rattle.gates.specs.Passes.{kept_counts, pair_part, part_left, sound_parts, CountedAs}
use Rattle.statevector.specs.Scans.{below_next, on_tag_side, sound_one, sound_part}
use Rattle.gates.proofs.Stored.{part-few, pairs-few}
use Rattle.gates.proofs.PairSums.{alone_pair, sum_of, sums_of, length-alone, length_both, alones-alone}

-- ---- the records of each part, in pairs

abbrev joined : Option (List ℕ) → List (List ℕ) → List (List ℕ)
joined None rs = rs
joined (Some r) rs = r ∷ rs

abbrev pub of_part : Bool → List Pair → List (List ℕ)
of_part b [] = []
of_part b (p ∷ ps) = joined (in_pair b p) (of_part b ps)

pairs-part : (n q : ℕ) (xs ys : List (List ℕ)) → (of_part false (pairs n q xs ys) ≡ xs) × (of_part true (pairs n q xs ys) ≡ ys)
pairs-part n q =
    pairs-ind n q (λ xs ys ps. (of_part false ps ≡ xs) × (of_part true ps ≡ ys))
    (refl, refl)
    (λ y ys ps r. (r.0, ap (λ (rs : List (List ℕ)). y ∷ rs) r.1))
    (λ x xs ps r. (ap (λ (rs : List (List ℕ)). x ∷ rs) r.0, r.1))
    (λ x y xs ys ps l r. (ap (λ (rs : List (List ℕ)). x ∷ rs) r.0, r.1))
    (λ x y xs ys ps e r. (ap (λ (rs : List (List ℕ)). x ∷ rs) r.0, ap (λ (rs : List (List ℕ)). y ∷ rs) r.1))
    (λ x y xs ys ps l r. (r.0, ap (λ (rs : List (List ℕ)). y ∷ rs) r.1))

-- ---- whether records are sound, one at a time

module _ (n q : ℕ) where
  -- those of all pairs, and those of one with the pairs after it
  abbrev pub sound_pairs : List Pair → Bool
  sound_pairs ps = sound_parts n q (of_part false ps) (of_part true ps)

  abbrev pub sound_first : Bool → List ℕ → List Pair → Bool
  sound_first b r ps = sound_one n (Some q) b r (of_part b ps)

  abbrev pub sound_next : Pair → List Pair → Bool
  sound_next (lhs x) ps = sound_first false x ps
  sound_next (rhs y) ps = sound_first true y ps
  sound_next (both x y) ps = sound_first false x ps && sound_first true y ps

  and_first : (a p r : Bool) → ((a && p) && r) ≡ (a && (p && r))
  and_first true p r = refl
  and_first false p r = refl

  and_second : (a p r : Bool) → (p && (a && r)) ≡ (a && (p && r))
  and_second true p r = refl
  and_second false true r = refl
  and_second false false r = refl

  and_both : (a b p r : Bool) → ((a && p) && (b && r)) ≡ ((a && b) && (p && r))
  and_both true b p r = and_second b p r
  and_both false b p r = refl

  sound-after : (p : Pair) (ps : List Pair) → sound_pairs (p ∷ ps) ≡ (sound_next p ps && sound_pairs ps)
  unfolding sound_part
  sound-after (lhs x) ps = and_first (sound_first false x ps) _ _
  sound-after (rhs y) ps = and_second (sound_first true y ps) _ _
  sound-after (both x y) ps = and_both (sound_first false x ps) (sound_first true y ps) _ _

  -- as the code tests it, by the words of the records that are left
  pub looked-at : (b : Bool) (r : Record) (left : Pairs) → length r.words.now ≡ n + 2 → left.n ≡ n
      → sound_one r.n (Some q) b r.words.now (records r.n (cond b left.rhs.now left.lhs.now)) ≡ sound_first b r.words.now (pairs_left left)
  looked-at b r left w e =
      rw (own-width n r w)
      (ap (sound_one n (Some q) b r.words.now) (ap (λ (m : ℕ). records m (cond b left.rhs.now left.lhs.now)) (sym e) ∙ by b))
    where
      by : (b : Bool) → records left.n (cond b left.rhs.now left.lhs.now) ≡ of_part b (pairs_left left)
      by false = sym (pairs-part left.n left.q (records left.n left.lhs.now) (records left.n left.rhs.now)).0
      by true = sym (pairs-part left.n left.q (records left.n left.lhs.now) (records left.n left.rhs.now)).1

-- a sound record is finite
sound-finite : (n q : ℕ) (b : Bool) (r : List ℕ) (rs : List (List ℕ)) → sound_one n (Some q) b r rs ≡ true → finite_record n r ≡ true
sound-finite n q b r rs d = moderate-record n r (and_true_r (on_tag_side n (Some q) b r) (moderate_record n r) (and_true_r (below_next n r rs) (on_tag_side n (Some q) b r && moderate_record n r) d))

-- so two can be read that are sound or were tested
pub both-finite : (n q : ℕ) (tested : Bool) (x y : List ℕ) (ps : List Pair) → (tested || sound_next n q (both x y) ps) ≡ true
    → (tested ≡ true → (finite_record n x ≡ true) × (finite_record n y ≡ true)) → (finite_record n x ≡ true) × (finite_record n y ≡ true)
both-finite n q true x y ps f t = t refl
both-finite n q false x y ps f t =
    let s = sound_first n q false x ps in
    let u = sound_first n q true y ps in
    (sound-finite n q false x (of_part false ps) (and-true-l s u f), sound-finite n q true y (of_part true ps) (and_true_r s u f))

-- where they are sound, or were tested, the others are left; where they are not, that settles it
fit_on : (t a r : Bool) → (t || a) ≡ true → (t || (a && r)) ≡ (t || r)
fit_on true a r e = refl
fit_on false true r e = refl
fit_on false false r e = absurd (false≢true e)

fit-off : (t a r : Bool) → t ≡ false → a ≡ false → (t || (a && r)) ≡ false
fit-off t a r e f = rw (e, f)

pub fit-tested : (t a : Bool) → t ≡ true → (t || a) ≡ true
fit-tested t a e = rw e

pub fit_found : (t a : Bool) → a ≡ true → (t || a) ≡ true
fit_found true a e = refl
fit_found false a e = e

-- ---- the counting pass under way

pub kept-few : (n : ℕ) (g : U4) (x y : List ℕ) (k : KeptCounts) → k ≡ kept_counts (sums_of n g x y) → (k.n0 ≤ 1) × (k.n1 ≤ 1)
kept-few n g x y k e =
    let k0 = ap (λ (k : KeptCounts). k.n0) e in
    let k1 = ap (λ (k : KeptCounts). k.n1) e in
    (omega (arith, cond-few (is_kept (sum_of n g x y false).verdict)), omega (arith, cond-few (is_kept (sum_of n g x y true).verdict)))

-- of `all` the pairs `ps` are left
pub record Counting (n q : ℕ) (g : U4) (tested : Bool) (all ps : List Pair) (alone k0 k1 : ℕ) : Type 0 where
  pub size0 : alone + k0 + length (pair_part n q g false ps) ≡ length (pair_part n q g false all)
  pub size1 : alone + k1 + length (pair_part n q g true ps) ≡ length (pair_part n q g true all)
  pub singles : alone + unpaired_count ps ≡ unpaired_count all
  pub sound : (tested || sound_pairs n q ps) ≡ (tested || sound_pairs n q all)

pub count_none : (n q : ℕ) (g : U4) (tested : Bool) (all : List Pair) → Counting n q g tested all all 0 0 0
count_none n q g tested all = record { size0 = omega arith; size1 = omega arith; singles = omega arith; sound = refl }

module _ {n q : ℕ} {g : U4} {tested : Bool} {all ps : List Pair} {alone k0 k1 : ℕ} (c : Counting n q g tested all ps alone k0 k1) where
  module _ (p : Pair) (rest : List Pair) (e : ps ≡ p ∷ rest) where
    -- the records that are next are sound, or were tested
    abbrev pub Fit : Type 0
    Fit = (tested || sound_next n q p rest) ≡ true

    sound-on : Fit → (tested || sound_pairs n q rest) ≡ (tested || sound_pairs n q all)
    sound-on f = sym (fit_on tested (sound_next n q p rest) _ f) ∙ ap (◌||◌ tested) (sym (ap (sound_pairs n q) e ∙ sound-after n q p rest)) ∙ c.sound

    -- records that are not sound settle it
    pub count-off : tested ≡ false → sound_next n q p rest ≡ false → (tested || sound_pairs n q all) ≡ false
    count-off t f = sym c.sound ∙ ap (◌||◌ tested) (ap (sound_pairs n q) e ∙ sound-after n q p rest) ∙ fit-off tested (sound_next n q p rest) _ t f

  pub count-alone : (set : Bool) (r : List ℕ) (rest : List Pair) (e : ps ≡ alone_pair set r ∷ rest) → Fit (alone_pair set r) rest e → Counting n q g tested all rest (alone + 1) k0 k1
  count-alone set r rest e f =
      let l0 = ap (λ (l : List Pair). length (pair_part n q g false l)) e ∙ length-alone n q g rest set false r in
      let l1 = ap (λ (l : List Pair). length (pair_part n q g true l)) e ∙ length-alone n q g rest set true r in
      let s = ap unpaired_count e ∙ alones-alone n q g rest set r in
      let z0 = c.size0 in
      let z1 = c.size1 in
      let z = c.singles in
      record { size0 = omega arith; size1 = omega arith; singles = omega arith; sound = sound-on (alone_pair set r) rest e f }

  pub count-both : (x y : List ℕ) (rest : List Pair) (e : ps ≡ both x y ∷ rest) → Fit (both x y) rest e → (k : KeptCounts) → k ≡ kept_counts (sums_of n g x y) → Counting n q g tested all rest alone (k0 + k.n0) (k1 + k.n1)
  count-both x y rest e f k d =
      let l0 = ap (λ (l : List Pair). length (pair_part n q g false l)) e ∙ length_both n q g rest x y false in
      let l1 = ap (λ (l : List Pair). length (pair_part n q g true l)) e ∙ length_both n q g rest x y true in
      let s = ap unpaired_count e in
      let z0 = c.size0 in
      let z1 = c.size1 in
      let z = c.singles in
      let p0 = ap (λ (k : KeptCounts). k.n0) d in
      let p1 = ap (λ (k : KeptCounts). k.n1) d in
      record { size0 = omega arith; size1 = omega arith; singles = omega arith; sound = sound-on (both x y) rest e f }

-- ---- of the pairs of two parts

module _ (p : Pairs) {g : U4} {tested : Bool} {ps : List Pair} {alone k0 k1 : ℕ} (c : Counting p.n p.q g tested (pairs_left p) ps alone k0 k1) where
  parts : sound_pairs p.n p.q (pairs_left p) ≡ sound_parts p.n p.q (part_left false p) (part_left true p)
  parts = let h = pairs-part p.n p.q (part_left false p) (part_left true p) in ap₂ (sound_parts p.n p.q) h.0 h.1

  pub counted-off : (tested || sound_pairs p.n p.q (pairs_left p)) ≡ false → CountedAs p.n p.q g tested (part_left false p) (part_left true p) None
  counted-off e = record { sound = sym (ap (◌||◌ tested) (sym parts) ∙ e); sizes = tt }

  -- no pair is left
  pub count-done : ps ≡ [] → (b : Bool) → b ≡ eqb alone 0 → CountedAs p.n p.q g tested (part_left false p) (part_left true p) (Some (record { n0 = alone + k0; n1 = alone + k1; paired = b }))
  unfolding pair_part sound_part
  count-done a b e =
      let l0 = ap (λ (l : List Pair). length (pair_part p.n p.q g false l)) a in
      let l1 = ap (λ (l : List Pair). length (pair_part p.n p.q g true l)) a in
      let s = ap unpaired_count a in
      let z0 = c.size0 in
      let z1 = c.size1 in
      let z = c.singles in
      record {
        sound = sym (ap (◌||◌ tested) (sym parts) ∙ sym c.sound ∙ ap (λ (l : List Pair). tested || sound_pairs p.n p.q l) a ∙ or-true tested);
        sizes = record { clear = omega arith; set = omega arith; partners = λ h. let k = eqb-true alone 0 (sym e ∙ h) in omega arith };
      }
    where
      or-true : (b : Bool) → (b || true) ≡ true
      or-true true = refl
      or-true false = refl

  -- counts are far below 2 ^ 64, since the stores' bytes are
  pub count_fits : (d : ℕ) → d ≤ 2 → length p.lhs.now * 8 < 2 ^ 63 → length p.rhs.now * 8 < 2 ^ 63 → (alone + k0 + d < 2 ^ 64) × (alone + k1 + d < 2 ^ 64)
  count_fits d D l r =
      let few : (b : Bool) → length (pair_part p.n p.q g b (pairs_left p)) ≤ length p.lhs.now + length p.rhs.now = λ b.
      omega (arith, part-few p.n p.q g b (pairs_left p), pairs-few p.n p.q (part_left false p) (part_left true p), records-few p.n p.lhs.now, records-few p.n p.rhs.now) in
      let f0 = few false in
      let f1 = few true in
      let a = c.size0 in
      let b = c.size1 in
      (omega arith, omega arith)
