-- An accepted state in the words that proofs use: parts that rise, are apart, on their sides and
-- finite. For the proofs of the tests, and the layer above. Assumes nothing.
use Rattle.std.specs.Ordering.{is_lt}
use Rattle.std.specs.declared.cmp.Ordering.{Ordering}
use Rattle.std.specs.declared.cmp.Ordering.TheVariants.{Less, Equal, Greater}
use Rattle.std.specs.Prelude.{◌≡◌, refl, ℕ, ◌+◌, ◌*◌, ◌<◌, ◌≤◌, List, [], ◌∷◌, Bool, leb, length, None, Option, Some}
use Rattle.std.proofs.Common.{sym, ◌∙◌, subst, true≢false}
use Rattle.std.proofs.Math.Path.{ap, ap₂}
use Rattle.std.proofs.Math.Bool.{true, false, not, ◌&&◌, ◌||◌}
use Rattle.std.specs.Bool.{beq}
use Rattle.std.proofs.lemmas.Bool.{false≢true}
use borrow.Author.Tests.{ltb-false, le-ltb, leb-false, lt-leb, not-false}
use Rattle.keys.specs.Keys.{listed, order, same}
use Rattle.keys.specs.Lists.{All}
use Rattle.merge.specs.Records.{capacity, key_of, record_bit, finite_record}
use Rattle.merge.specs.Laws.{capacity-room, room-capacity, width-range, order_trans, same-is, not_same, all_map, and-true-l, and_true_r, or-false-l, or-false-r}
use Rattle.merge.specs.Sorting.{Rising, Apart, sort_key}
use Rattle.statevector.specs.declared.State.{State}
use Rattle.statevector.specs.States.{part_of}
use Rattle.statevector.specs.Tests.{all, rises, meets, all_on_side, all_finite, too_many, unordered, side_off, wrong_side, not_finite, Accepted}

-- an accepted state in the words that proofs use
pub record Sound (s : State) (front : List ℕ) : Type 0 where
  pub some : 0 < s.width
  pub few : s.width < 63
  pub room : (s.n0 + s.n1) * (s.width + 2) ≤ length front
  pub rise : (b : Bool) → Rising (sort_key s.width None) (part_of b s front)
  pub apart : Apart (sort_key s.width None) (part_of false s front) (part_of true s front)
  pub sides : (q : ℕ) → s.tag ≡ Some q → (q < 64 * s.width) × ((b : Bool) → All (λ r. record_bit s.width q r ≡ b) (part_of b s front))
  pub finites : (b : Bool) → All (λ r. finite_record s.width r ≡ true) (part_of b s front)

-- ---- tests of lists, and what holds of every element

pub all_true : {A : Type 0} (t : A → Bool) (xs : List A) → all t xs ≡ true → All (λ x. t x ≡ true) xs
all_true t [] e = tt
all_true t (x ∷ xs) e = (and-true-l (t x) (all t xs) e, all_true t xs (and_true_r (t x) (all t xs) e))

pub true-all : {A : Type 0} (t : A → Bool) (xs : List A) → All (λ x. t x ≡ true) xs → all t xs ≡ true
true-all t [] h = refl
true-all t (x ∷ xs) h = ap₂ ◌&&◌ h.0 (true-all t xs h.1)

-- what holds of every pair holds of it the other way round
all-swap : {A B : Type 0} (P : A → B → Type 0) (xs : List A) (ys : List B) → All (λ x. All (λ y. P x y) ys) xs → All (λ y. All (λ x. P x y) xs) ys
all-swap P xs [] h = tt
all-swap P xs (y ∷ ys) h = (all_map xs (λ x k. k.0) h, all-swap P xs ys (all_map xs (λ x k. k.1) h))

-- a test that says less
is-less : (o : Ordering) → is_lt o ≡ true → o ≡ Less
is-less Less e = refl
is-less Equal e = absurd (false≢true e)
is-less Greater e = absurd (false≢true e)

-- neighbours that rise are all below every later one
pub rises-rising : (n : ℕ) (rs : List (List ℕ)) → rises n rs ≡ true → Rising (sort_key n None) rs
unfolding rises
rises-rising n [] e = tt
rises-rising n (r ∷ []) e = (tt, tt)
rises-rising n (r ∷ s ∷ rs) e =
    let l = is-less (order (key_of n r) (key_of n s)) (and-true-l (is_lt (order (key_of n r) (key_of n s))) (rises n (s ∷ rs)) e) in
    let h = rises-rising n (s ∷ rs) (and_true_r (is_lt (order (key_of n r) (key_of n s))) (rises n (s ∷ rs)) e) in
    ((l, all_map rs (λ t m. order_trans (key_of n r) (key_of n s) (key_of n t) l m) h.0), h)

pub rising-rises : (n : ℕ) (rs : List (List ℕ)) → Rising (sort_key n None) rs → rises n rs ≡ true
unfolding rises
rising-rises n [] h = refl
rising-rises n (r ∷ []) h = refl
rising-rises n (r ∷ s ∷ rs) h = ap₂ ◌&&◌ (ap is_lt h.0.0) (rising-rises n (s ∷ rs) h.1)

-- parts that don't meet have no key in common
pub meets-apart : (n : ℕ) (xs ys : List (List ℕ)) → meets n xs ys ≡ false → Apart (sort_key n None) xs ys
unfolding meets
meets-apart n xs ys e =
    all-swap (λ x y. key_of n x ≡ key_of n y → ⊥) xs ys
    (all_map xs
    (λ x h. all_map ys (λ y m i. false≢true (sym (ap not (same-is (key_of n x) (key_of n y) i)) ∙ m)) (all_true (λ y. not (same (key_of n x) (key_of n y))) ys h))
    (all_true (λ x. all (λ y. not (same (key_of n x) (key_of n y))) ys) xs (not-false (all (λ x. all (λ y. not (same (key_of n x) (key_of n y))) ys) xs) e)))

pub apart-meets : (n : ℕ) (xs ys : List (List ℕ)) → Apart (sort_key n None) xs ys → meets n xs ys ≡ false
unfolding meets
apart-meets n xs ys h =
    ap not
    (true-all (λ x. all (λ y. not (same (key_of n x) (key_of n y))) ys) xs
    (all_map xs (λ x k. true-all (λ y. not (same (key_of n x) (key_of n y))) ys (all_map ys (λ y i. ap not (not_same (key_of n x) (key_of n y) i)) k))
    (all-swap (λ y x. key_of n x ≡ key_of n y → ⊥) ys xs h)))

-- a test for one side
beq-eq : (a b : Bool) → beq a b ≡ true → a ≡ b
beq-eq true true e = refl
beq-eq true false e = absurd (false≢true e)
beq-eq false true e = absurd (false≢true e)
beq-eq false false e = refl

eq-beq : (a b : Bool) → a ≡ b → beq a b ≡ true
eq-beq true true e = refl
eq-beq true false e = absurd (true≢false e)
eq-beq false true e = absurd (false≢true e)
eq-beq false false e = refl

-- all records on one side, and all finite
pub on-side : (n q : ℕ) (b : Bool) (rs : List (List ℕ)) → all_on_side n q b rs ≡ true → All (λ r. record_bit n q r ≡ b) rs
unfolding all_on_side
on-side n q b rs e = all_map rs (λ r h. beq-eq (record_bit n q r) b h) (all_true (λ r. beq (record_bit n q r) b) rs e)

pub all-on-side : (n q : ℕ) (b : Bool) (rs : List (List ℕ)) → All (λ r. record_bit n q r ≡ b) rs → all_on_side n q b rs ≡ true
unfolding all_on_side
all-on-side n q b rs h = true-all (λ r. beq (record_bit n q r) b) rs (all_map rs (λ r e. eq-beq (record_bit n q r) b e) h)

pub all-finite : (n : ℕ) (rs : List (List ℕ)) → all_finite n rs ≡ true → All (λ r. finite_record n r ≡ true) rs
unfolding all_finite
all-finite n rs e = all_true (finite_record n) rs e

pub finite-all : (n : ℕ) (rs : List (List ℕ)) → All (λ r. finite_record n r ≡ true) rs → all_finite n rs ≡ true
unfolding all_finite
finite-all n rs h = true-all (finite_record n) rs h

-- ---- an accepted state is sound, and a sound one of a listed width accepted

module _ (s : State) (front : List ℕ) where
  abbrev n : ℕ
  n = s.width

  -- a test of both parts, and of each
  each_part : (t : Bool → Bool) → (t false && t true) ≡ true → (b : Bool) → t b ≡ true
  each_part t e false = and-true-l (t false) (t true) e
  each_part t e true = and_true_r (t false) (t true) e

  rise-of : unordered s front ≡ false → (b : Bool) → Rising (sort_key n None) (part_of b s front)
  unfolding unordered
  rise-of e false = rises-rising n (part_of false s front) (not-false (rises n (part_of false s front)) (or-false-l (not (rises n (part_of false s front))) _ e))
  rise-of e true =
      rises-rising n (part_of true s front)
      (not-false (rises n (part_of true s front)) (or-false-l (not (rises n (part_of true s front))) _ (or-false-r (not (rises n (part_of false s front))) _ e)))

  apart_of : unordered s front ≡ false → Apart (sort_key n None) (part_of false s front) (part_of true s front)
  unfolding unordered
  apart_of e =
      meets-apart n (part_of false s front) (part_of true s front)
      (or-false-r (not (rises n (part_of true s front))) _ (or-false-r (not (rises n (part_of false s front))) _ e))

  sides-of : (q : ℕ) → side_off (Some q) s front ≡ false → (q < 64 * n) × ((b : Bool) → All (λ r. record_bit n q r ≡ b) (part_of b s front))
  sides-of q e =
      let u = or-false-l (leb (64 * n) q) _ e in
      let v = not-false (all_on_side n q false (part_of false s front) && all_on_side n q true (part_of true s front)) (or-false-r (leb (64 * n) q) _ e) in
      (leb-false (64 * n) q u, λ b. on-side n q b (part_of b s front) (each_part (λ b. all_on_side n q b (part_of b s front)) v b))

  finites-of : not_finite s front ≡ false → (b : Bool) → All (λ r. finite_record n r ≡ true) (part_of b s front)
  unfolding not_finite
  finites-of e b =
      all-finite n (part_of b s front)
      (each_part (λ b. all_finite n (part_of b s front)) (not-false (all_finite n (part_of false s front) && all_finite n (part_of true s front)) e) b)

  pub room_of : too_many s front ≡ false → (s.n0 + s.n1) * (n + 2) ≤ length front
  unfolding too_many
  room_of e = capacity-room n (s.n0 + s.n1) front (ltb-false (capacity n front) (s.n0 + s.n1) e)

  pub accepted-sound : Accepted s front → Sound s front
  unfolding wrong_side
  accepted-sound a =
      record {
        some = (width-range n a.width).0;
        few = (width-range n a.width).1;
        room = room_of a.counted;
        rise = rise-of a.ordered;
        apart = apart_of a.ordered;
        sides = λ q e. sides-of q (subst (λ (t : Option ℕ). side_off t s front ≡ false) e a.sided);
        finites = finites-of a.finite;
      }

  tag-sided : Sound s front → (t : Option ℕ) → s.tag ≡ t → side_off t s front ≡ false
  tag-sided h None e = refl
  tag-sided h (Some q) e =
      let k = h.sides q e in
      ap₂ ◌||◌ (lt-leb (64 * n) q k.0)
      (ap not (ap₂ ◌&&◌ (all-on-side n q false (part_of false s front) (k.1 false)) (all-on-side n q true (part_of true s front) (k.1 true))))

  ordered_of : Sound s front → unordered s front ≡ false
  unfolding unordered
  ordered_of h =
      ap₂ ◌||◌ (ap not (rising-rises n (part_of false s front) (h.rise false)))
      (ap₂ ◌||◌ (ap not (rising-rises n (part_of true s front) (h.rise true))) (apart-meets n (part_of false s front) (part_of true s front) h.apart))

  finite-of : Sound s front → not_finite s front ≡ false
  unfolding not_finite
  finite-of h = ap not (ap₂ ◌&&◌ (finite-all n (part_of false s front) (h.finites false)) (finite-all n (part_of true s front) (h.finites true)))

  counted_of : Sound s front → too_many s front ≡ false
  unfolding too_many
  counted_of h = le-ltb (capacity n front) (s.n0 + s.n1) (room-capacity n (s.n0 + s.n1) front h.room)

  pub sound-accepted : listed s.width ≡ true → Sound s front → Accepted s front
  unfolding wrong_side
  sound-accepted l h =
      record { width = l; counted = counted_of h; ordered = ordered_of h; sided = tag-sided h s.tag refl; finite = finite-of h }
