-- What `gate_weight` says, for whoever calls it: the test of `Weighed` is demand 3's premise on a
-- gate, both ways, and the float that it hands out stands for the weight. Assumes nothing.
use Rattle.std.specs.Prelude.{◌≡◌, refl, ℕ, ◌≤◌, ◌<◌, ◌↔◌, Bool, true, false, cond, ◌&&◌, T, leb, ℤ, pos, negsuc, nat_abs, ◌+ℤ◌, Float, None, Some}
use Rattle.std.specs.Bool.{MatchBool}
use Rattle.std.specs.List.{AllWithin, HoldsAt, range_with_len}
use Rattle.std.proofs.Common.{sym, ap, ap₂, ◌∙◌, subst, arith, leb→le, le→leb, eqb→eq, lit≤, length, get_or}
use Prim.Native.Nat.{zero-le}
use Rattle.std.proofs.lemmas.List.FromFn.{get_or-range_with_len}
use Rattle.std.proofs.Math.Dec.{eqb_refl}
use Rattle.std.specs.Float.{nan, inf, fin, binary64}
use Rattle.std.specs.Float.Ieee.{eq, of_int}
use Rattle.std.specs.Float.Ieee.Fits.{and_i, and_l, and_r, add-fits}
use Rattle.std.specs.Float.Ieee.Scale.{finite}
use Rattle.algebra.specs.Gate.{Gauss, Gate, squared, column0, column1, cross}
use Rattle.algebra.specs.Ring.{ints}
use Rattle.amplitudes.specs.declared.Complex.{Complex}
use Rattle.amplitudes.specs.declared.U4.{U4}
use Rattle.amplitudes.specs.Amplitudes.{absolute, norm2, finite_c, finite_gate}
use Rattle.amplitudes.proofs.Laws.{same_test, whole-within, times-exact, plus-exact, conjugate-exact, norm2-exact, norm2-from-zero, add-from-zero, add-within, eq-whole, of_int-whole, from-zero-of_int, absolute-whole, absolute-back}
use Rattle.amplitudes.specs.Numbers.{is_whole, whole_of, Whole, Within, WholeC, gauss, gauss_gate, StandsWithin}
use Rattle.exact.specs.Table.{SmallParts, Admissible}
use Rattle.exact.specs.Weighed.{equal, small_whole, small_parts, small_gate, balanced, is_admissible, float_weight, column_f, cross_f, zero_f, balanced_f, weighed_of}

-- ---- tests and facts
equal-to : (a b : ℤ) → T (equal a b) → a ≡ b
equal-to (pos m) (pos n) h = ap pos (eqb→eq m n h)
equal-to (pos m) (negsuc n) h = absurd h
equal-to (negsuc m) (pos n) h = absurd h
equal-to (negsuc m) (negsuc n) h = ap negsuc (eqb→eq m n h)

equal-own : (a : ℤ) → T (equal a a)
equal-own (pos n) = eqb_refl n
equal-own (negsuc n) = eqb_refl n

equal_of : (a b : ℤ) → a ≡ b → T (equal a b)
equal_of a b e = subst (λ (z : ℤ). T (equal a z)) e (equal-own a)

part-to : (x : Float) → T (small_whole x) → T (is_whole x) × (nat_abs (whole_of x) ≤ 16)
unfolding small_whole
part-to x h = let l = leb (nat_abs (whole_of x)) 16 in (and_l (is_whole x) l h, leb→le (nat_abs (whole_of x)) 16 (and_r (is_whole x) l h))

part_of : (x : Float) → T (is_whole x) → nat_abs (whole_of x) ≤ 16 → T (small_whole x)
unfolding small_whole
part_of x w l = and_i (is_whole x) (leb (nat_abs (whole_of x)) 16) w (le→leb (nat_abs (whole_of x)) 16 l)

parts-to : (a : Complex) → T (small_parts a) → SmallParts a
unfolding WholeC gauss
parts-to a h =
    let p = part-to a.re (and_l (small_whole a.re) (small_whole a.im) h) in
    let q = part-to a.im (and_r (small_whole a.re) (small_whole a.im) h) in
    ((p.0, q.0), (p.1, q.1))

parts-of : (a : Complex) → SmallParts a → T (small_parts a)
unfolding WholeC gauss
parts-of a p = and_i (small_whole a.re) (small_whole a.im) (part_of a.re p.0.0 p.1.0) (part_of a.im p.0.1 p.1.1)

-- the four amplitudes of a small gate
record Four (g : U4) : Type 0 where
  pub s0 : T (small_parts g.s0)
  pub f0 : T (small_parts g.f0)
  pub s1 : T (small_parts g.s1)
  pub f1 : T (small_parts g.f1)

four : (g : U4) → T (small_gate g) → Four g
four g h =
    let p = and_l (small_parts g.s0 && small_parts g.f0) (small_parts g.s1 && small_parts g.f1) h in
    let q = and_r (small_parts g.s0 && small_parts g.f0) (small_parts g.s1 && small_parts g.f1) h in
    record {
      s0 = and_l (small_parts g.s0) (small_parts g.f0) p;
      f0 = and_r (small_parts g.s0) (small_parts g.f0) p;
      s1 = and_l (small_parts g.s1) (small_parts g.f1) q;
      f1 = and_r (small_parts g.s1) (small_parts g.f1) q;
    }

stands-small : (a : Complex) → T (small_parts a) → StandsWithin 16 a (gauss a)
stands-small a h = let p = parts-to a h in whole-within 16 a p.0 p.1

-- ---- the floats that the code computes on a small gate
column-exact : (a b : Complex) → T (small_parts a) → T (small_parts b) → Within 1024 (column_f a b) (squared ints (gauss a) +ℤ squared ints (gauss b))
unfolding column_f
column-exact a b p q = add-within (norm2-exact (stands-small a p) (lit≤ tt)) (norm2-exact (stands-small b q) (lit≤ tt)) (lit≤ tt)

cross-exact : (g : U4) → Four g → StandsWithin 1024 (cross_f g) (cross ints (gauss_gate g))
unfolding cross_f
cross-exact g h =
    plus-exact
    (times-exact (stands-small g.s0 h.s0) (conjugate-exact (stands-small g.f1 h.f1)) (lit≤ tt))
    (times-exact (stands-small g.f0 h.f0) (conjugate-exact (stands-small g.s1 h.s1)) (lit≤ tt))
    (lit≤ tt)

-- ---- so each test on them is the test on the integers
whole_twice : {x : Float} {a b : ℤ} → Whole x a → Whole x b → a ≡ b
whole_twice X Y = sym X.value ∙ Y.value

eq_test : {x y : Float} {a b : ℤ} → Whole x a → Whole y b → eq x y ≡ equal a b
eq_test {x} {y} {a} {b} X Y =
    same_test (eq x y) (equal a b)
    (λ h. equal_of a b (whole_twice X ((eq-whole x Y).0 h)))
    (λ h. (eq-whole x Y).1 (record { whole = X.whole; value = X.value ∙ equal-to a b h }))

zero-whole : Whole (fin false 0 (pos 0)) (pos 0)
unfolding is_whole whole_of
zero-whole = record { whole = tt; value = refl }

first-exact : (g : U4) → T (small_gate g) → Within 1024 (column_f g.s0 g.f0) (column0 ints (gauss_gate g))
first-exact g h = let p = four g h in column-exact g.s0 g.f0 p.s0 p.f0

balanced-exact : (g : U4) → T (small_gate g) → balanced_f g ≡ balanced (gauss_gate g)
unfolding balanced balanced_f zero_f
balanced-exact g h =
    let p = four g h in
    let c = cross-exact g p in
    ap₂ ◌&&◌ (eq_test (first-exact g h).exact (column-exact g.f1 g.s1 p.f1 p.s1).exact)
    (ap₂ ◌&&◌ (eq_test c.re.exact zero-whole) (eq_test c.im.exact zero-whole))

-- and the float of the first column is that of the weight
whole-finite : (x : Float) → T (is_whole x) → T (finite x)
unfolding is_whole
whole-finite nan h = h
whole-finite (inf s) h = h
whole-finite (fin s m e) h = tt

parts-finite : (a : Complex) → T (small_parts a) → T (finite_c a)
unfolding WholeC
parts-finite a h = let w = (parts-to a h).0 in and_i (finite a.re) (finite a.im) (whole-finite a.re w.0) (whole-finite a.im w.1)

weight-exact : (g : U4) → T (small_gate g) → column_f g.s0 g.f0 ≡ float_weight g
unfolding column_f
weight-exact g h =
    let p = four g h in
    let w = first-exact g h in
    let l = w.bound in
    from-zero-of_int (add-fits binary64 (norm2 g.s0) (norm2 g.f0))
    (add-from-zero (norm2 g.s0) (norm2 g.f0) (norm2-from-zero g.s0 (parts-finite g.s0 p.s0)) (norm2-from-zero g.f0 (parts-finite g.f0 p.f0)))
    (record { exact = w.exact; bound = omega arith })

-- where the gate is not small, neither test is asked
both-exact : (g : U4) → small_gate g && balanced_f g ≡ small_gate g && balanced (gauss_gate g)
both-exact g = go (small_gate g) (balanced-exact g)
  where
    go : (b : Bool) → (T b → balanced_f g ≡ balanced (gauss_gate g)) → b && balanced_f g ≡ b && balanced (gauss_gate g)
    go true f = f tt
    go false f = refl

-- so what the code answers by floats is the answer
pub answer-exact : (g : U4) (k : Bool) → small_gate g && balanced_f g ≡ k
    → cond k (Some (column_f g.s0 g.f0)) None ≡ weighed_of g
unfolding weighed_of
answer-exact g k e = go k (sym (both-exact g) ∙ e)
  where
    go : (b : Bool) → is_admissible g ≡ b → cond b (Some (column_f g.s0 g.f0)) None ≡ cond (is_admissible g) (Some (float_weight g)) None
    go true f =
        ap Some (weight-exact g (and_l (small_gate g) (balanced (gauss_gate g)) (subst T (sym f) tt)))
        ∙ ap (λ (i : Bool). cond i (Some (float_weight g)) None) (sym f)
    go false f = ap (λ (i : Bool). cond i (Some (float_weight g)) None) (sym f)

-- ---- a size is compared with 0, 1, .., 16
true_of : (b : Bool) → T b → b ≡ true
true_of true h = refl
true_of false h = elim h [ ]

small-found : (x : Float) (n : ℕ) → n ≤ 16 → eq (absolute x) (of_int binary64 (pos n)) ≡ true
    → small_whole x ≡ true
small-found x n l e =
    let w = absolute-back x n ((eq-whole (absolute x) (of_int-whole n (omega arith))).0 (subst T (sym e) tt)) in
    let k = w.1 in
    true_of (small_whole x) (part_of x w.0 (omega arith))

size-found : (x : Float) → T (small_whole x) → (nat_abs (whole_of x) ≤ 16) × T (eq (absolute x) (of_int binary64 (pos (nat_abs (whole_of x)))))
size-found x h =
    let p = part-to x h in
    let l = p.1 in
    (l, (eq-whole (absolute x) (of_int-whole (nat_abs (whole_of x)) (omega arith))).1 (absolute-whole (record { whole = p.0; value = refl })))

small-missed : (x : Float)
    → ((n : ℕ) → n < 17 → eq (absolute x) (of_int binary64 (pos n)) ≡ false)
    → small_whole x ≡ false
small-missed x f = go (small_whole x) (size-found x)
  where
    go : (b : Bool) → (T b → (nat_abs (whole_of x) ≤ 16) × T (eq (absolute x) (of_int binary64 (pos (nat_abs (whole_of x)))))) → b ≡ false
    go true h = let l = (h tt).0 in absurd (subst T (f (nat_abs (whole_of x)) (omega arith)) (h tt).1)
    go false h = refl

-- what `any` answers of a size y: it equals one of the numbers, or none
abbrev pub Tested : Float → Bool → Type 0
Tested y r = MatchBool r
    ((k : ℕ) × (k < length (range_with_len 0 17)) × HoldsAt (λ n. eq y (of_int binary64 (pos n)) ≡ true) (range_with_len 0 17) k)
    (AllWithin (λ n. eq y (of_int binary64 (pos n)) ≡ false) (range_with_len 0 17) 0 (length (range_with_len 0 17)))

pub small-tested : (x y : Float) (r : Bool) → y ≡ absolute x → Tested y r → r ≡ small_whole x
small-tested x y r e t = go r (subst (λ (z : Float). Tested z r) e t)
  where
    at : (k : ℕ) → k < 17 → get_or (range_with_len 0 17) k 0 ≡ k
    at k l = let h = get_or-range_with_len 0 17 k 0 l in omega arith

    go : (b : Bool) → Tested (absolute x) b → b ≡ small_whole x
    go true h = sym (small-found x h.0 (let l = h.1 in omega arith) (subst (λ (n : ℕ). eq (absolute x) (of_int binary64 (pos n)) ≡ true) (at h.0 h.1) (h.2 0)))
    go false h = sym (small-missed x (λ k l. subst (λ (n : ℕ). eq (absolute x) (of_int binary64 (pos n)) ≡ false) (at k l) (h k 0 zero-le l)))

-- ---- the test is the premise
balanced-parts : (g : Gate ℤ) → T (balanced g) → (column0 ints g ≡ column1 ints g) × ((cross ints g).re ≡ pos 0) × ((cross ints g).im ≡ pos 0)
unfolding balanced
balanced-parts g h =
    let l = equal (column0 ints g) (column1 ints g) in
    let r = equal (cross ints g).re (pos 0) in
    let i = equal (cross ints g).im (pos 0) in (
      equal-to (column0 ints g) (column1 ints g) (and_l l (r && i) h),
      equal-to (cross ints g).re (pos 0) (and_l r i (and_r l (r && i) h)),
      equal-to (cross ints g).im (pos 0) (and_r r i (and_r l (r && i) h)),
    )

test-admissible : (g : U4) → T (is_admissible g) → Admissible g
test-admissible g h =
    let p = four g (and_l (small_gate g) (balanced (gauss_gate g)) h) in
    let b = balanced-parts (gauss_gate g) (and_r (small_gate g) (balanced (gauss_gate g)) h) in
    record {
      s0 = parts-to g.s0 p.s0;
      f0 = parts-to g.f0 p.f0;
      s1 = parts-to g.s1 p.s1;
      f1 = parts-to g.f1 p.f1;
      weighted = record { first = refl; second = sym b.0; crossed = λ i. record { re = b.1 i; im = b.2 i } };
    }

admissible-test : (g : U4) → Admissible g → T (is_admissible g)
unfolding balanced
admissible-test g f =
    and_i (small_gate g) (balanced (gauss_gate g))
    (and_i (small_parts g.s0 && small_parts g.f0) (small_parts g.s1 && small_parts g.f1)
    (and_i (small_parts g.s0) (small_parts g.f0) (parts-of g.s0 f.s0) (parts-of g.f0 f.f0))
    (and_i (small_parts g.s1) (small_parts g.f1) (parts-of g.s1 f.s1) (parts-of g.f1 f.f1)))
    (and_i (equal (column0 ints (gauss_gate g)) (column1 ints (gauss_gate g))) (equal (cross ints (gauss_gate g)).re (pos 0) && equal (cross ints (gauss_gate g)).im (pos 0))
    (equal_of (column0 ints (gauss_gate g)) (column1 ints (gauss_gate g)) (sym f.weighted.second))
    (and_i (equal (cross ints (gauss_gate g)).re (pos 0)) (equal (cross ints (gauss_gate g)).im (pos 0))
    (equal_of (cross ints (gauss_gate g)).re (pos 0) (ap (λ (z : Gauss). z.re) f.weighted.crossed))
    (equal_of (cross ints (gauss_gate g)).im (pos 0) (ap (λ (z : Gauss). z.im) f.weighted.crossed))))

-- ---- the answer

-- a weight is handed out only of a gate that demand 3 covers; it is the gate's weight, and at most
-- 1,024
pub weighed-admissible : (g : U4) (w : Float) → weighed_of g ≡ Some w
    → Admissible g × Within 1024 w (column0 ints (gauss_gate g))
unfolding weighed_of
weighed-admissible g w e = go (is_admissible g) refl e
  where
    go : (b : Bool) → is_admissible g ≡ b → cond b (Some (float_weight g)) None ≡ Some w → Admissible g × Within 1024 w (column0 ints (gauss_gate g))
    go true t p =
        let h : T (is_admissible g) = subst T (sym t) tt in
        let s : T (small_gate g) = and_l (small_gate g) (balanced (gauss_gate g)) h in
        let q : float_weight g ≡ w = cc in
        (test-admissible g h, subst (λ (x : Float). Within 1024 x (column0 ints (gauss_gate g))) (weight-exact g s ∙ q) (first-exact g s))
    go false t p = let z : ◌≡◌ {A = ℕ} 0 1 = cc in absurd (omega arith)

-- and of each such gate
pub admissible-weighed : (g : U4) → Admissible g → weighed_of g ≡ Some (float_weight g)
unfolding weighed_of
admissible-weighed g f = go (is_admissible g) (admissible-test g f)
  where
    go : (b : Bool) → T b → cond b (Some (float_weight g)) None ≡ Some (float_weight g)
    go true t = refl
    go false t = elim t [ ]

-- so `None` is said of a gate exactly where demand 3 does not cover it
pub outside-inadmissible : (g : U4) → (weighed_of g ≡ None) ↔ (Admissible g → ⊥)
unfolding weighed_of
outside-inadmissible g = ((λ e f. let w = admissible-weighed g f in let z : ◌≡◌ {A = ℕ} 0 1 = cc in omega arith), (λ n. go (is_admissible g) (λ t. n (test-admissible g t))))
  where
    go : (b : Bool) → (T b → ⊥) → cond b (Some (float_weight g)) None ≡ None
    go true f = absurd (f tt)
    go false f = refl

-- a gate that is not finite has no weight

admissible-finite : (g : U4) → Admissible g → T (finite_gate g)
admissible-finite g f =
    and_i (finite_c g.s0 && finite_c g.f0) (finite_c g.s1 && finite_c g.f1)
    (and_i (finite_c g.s0) (finite_c g.f0) (parts-finite g.s0 (parts-of g.s0 f.s0)) (parts-finite g.f0 (parts-of g.f0 f.f0)))
    (and_i (finite_c g.s1) (finite_c g.f1) (parts-finite g.s1 (parts-of g.s1 f.s1)) (parts-finite g.f1 (parts-of g.f1 f.f1)))

pub not-finite-outside : (g : U4) → finite_gate g ≡ false → weighed_of g ≡ None
not-finite-outside g e = (outside-inadmissible g).1 (λ f. subst T e (admissible-finite g f))
