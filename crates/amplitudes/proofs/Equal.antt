-- Equality of floats and whole numbers: x equals a y that stands for b exactly where x is whole and
-- stands for b, either zero being 0. Assumes nothing.
use Rattle.std.specs.Prelude.{◌≡◌, refl, ℕ, zero, suc, ◌*◌, ◌/◌, ◌^◌, ◌≤◌, ◌<◌, ◌↔◌, Bool, true, false, ◌||◌, T, eqb, ℤ, pos, nat_abs, Float}
use Rattle.std.proofs.Common.{sym, ap, ◌∙◌, subst, zero-lt-suc, zero-mul, mul-one, mul_right_comm, mul-pos, arith, eqb→eq}
use Rattle.std.proofs.Math.Nat.{eq_of_mul-eq-mul_right}
use Rattle.std.specs.Bool.{beq}
use Rattle.std.specs.Float.{nan, inf, fin, binary64}
use Rattle.std.specs.Float.Ieee.{up, down, eq, of_int, fits}
use Rattle.std.specs.Float.Ieee.Back.{round_whole, whole_unique}
use Rattle.std.specs.Float.Ieee.Exact.{HasValue}
use Rattle.std.specs.Float.Ieee.Fits.{and_i, and_l, and_r, eq→eqb, down_pos, of_int-fits}
use Rattle.amplitudes.specs.Amplitudes.{absolute, from_zero}
use Rattle.amplitudes.proofs.Compare.{absolute-value}
use Rattle.amplitudes.specs.Numbers.{signed, is_whole, whole_of, Whole, Within}
use Rattle.amplitudes.proofs.Whole.{view, of_value, same_whole, nat_abs-signed, same_parts}

-- ---- x equals y, whose value is ±n, so x is ±n
positive : (n c d : ℕ) → 0 < c → 0 < d → suc n * c * d ≡ 0 → ⊥
positive n c d C D z = let l = mul-pos (mul-pos (zero-lt-suc n) C) D in omega arith

-- the signs are alike, or the number is 0
same_sign : (s r : Bool) (n c d : ℕ) → 0 < c → 0 < d → T (beq s r || eqb (n * c * d) 0) → signed s n ≡ signed r n
same_sign true true n c d C D h = refl
same_sign false false n c d C D h = refl
same_sign true false zero c d C D h = refl
same_sign false true zero c d C D h = refl
same_sign true false (suc n) c d C D h = absurd (positive n c d C D (eqb→eq (suc n * c * d) 0 h))
same_sign false true (suc n) c d C D h = absurd (positive n c d C D (eqb→eq (suc n * c * d) 0 h))

eq-to : (x y : Float) (t : Bool) (n : ℕ) → HasValue y t n 1 → T (eq x y) → Whole x (signed t n)
unfolding eq
eq-to nan y t n w h = absurd h
eq-to (inf s) nan t n w h = absurd w
eq-to (inf s) (inf r) t n w h = absurd w
eq-to (inf s) (fin r q d) t n w h = absurd h
eq-to (fin s m e) nan t n w h = absurd w
eq-to (fin s m e) (inf r) t n w h = absurd w
eq-to (fin s m e) (fin r q d) t n w h =
    let equal = eqb→eq (m * up e * down d) (q * up d * down e) (and_l (eqb (m * up e * down d) (q * up d * down e)) (beq s r || eqb (m * up e * down d) 0) h) in
    let signs = and_r (eqb (m * up e * down d) (q * up d * down e)) (beq s r || eqb (m * up e * down d) 0) h in
    let other : q * up d ≡ n * down d = sym (mul-one (q * up d)) ∙ w.1 in
    let scaled : m * up e * down d ≡ n * down e * down d = equal ∙ ap (λ (k : ℕ). k * down e) other ∙ mul_right_comm n (down d) (down e) in
    let value : m * up e ≡ n * down e = eq_of_mul-eq-mul_right (down d) (down_pos d) (m * up e) (n * down e) scaled in
    same_whole (same_sign s r n (down e) (down d) (down_pos e) (down_pos d) (subst (λ (k : ℕ). T (beq s r || eqb k 0)) scaled signs) ∙ ap (λ (i : Bool). signed i n) w.0)
    (of_value (fin s m e) s n (refl, mul-one (m * up e) ∙ value))

-- ---- x and y are ±n, with one sign unless n is 0, so they are equal
or_left : (a b : Bool) → T a → T (a || b)
or_left true b h = tt
or_left false b h = elim h [ ]

or_right : (a b : Bool) → T b → T (a || b)
or_right true b h = tt
or_right false b h = h

beq_same : (s t : Bool) → s ≡ t → T (beq s t)
beq_same s t e = subst (λ (i : Bool). T (beq s i)) e (own s)
  where
    own : (i : Bool) → T (beq i i)
    own true = tt
    own false = tt

one-sign : (s t : Bool) (n c d : ℕ) → signed s n ≡ signed t n → T (beq s t || eqb (n * c * d) 0)
one-sign s t zero c d e = or_right (beq s t) (eqb (0 * c * d) 0) (eq→eqb (ap (λ (k : ℕ). k * d) (zero-mul c) ∙ zero-mul d))
one-sign s t (suc n) c d e = or_left (beq s t) (eqb (suc n * c * d) 0) (beq_same s t (same_parts s t (suc n) (suc n) (λ o. not-zero (sym (nat_abs-signed s (suc n)) ∙ ap nat_abs o)) e).0)
  where
    not-zero : suc n ≡ 0 → ⊥
    not-zero o = omega arith

eq_of : (x y : Float) (s t : Bool) (n : ℕ) → HasValue x s n 1 → HasValue y t n 1 → signed s n ≡ signed t n → T (eq x y)
unfolding eq
eq_of nan y s t n v w e = absurd v
eq_of (inf u) y s t n v w e = absurd v
eq_of (fin u m e) nan s t n v w p = absurd w
eq_of (fin u m e) (inf r) s t n v w p = absurd w
eq_of (fin u m e) (fin r q d) s t n v w p =
    let first : m * up e ≡ n * down e = sym (mul-one (m * up e)) ∙ v.1 in
    let second : q * up d ≡ n * down d = sym (mul-one (q * up d)) ∙ w.1 in
    let equal : m * up e * down d ≡ q * up d * down e = ap (λ (k : ℕ). k * down d) first ∙ mul_right_comm n (down e) (down d) ∙ ap (λ (k : ℕ). k * down e) (sym second) in
    and_i (eqb (m * up e * down d) (q * up d * down e)) (beq u r || eqb (m * up e * down d) 0) (eq→eqb equal)
    (subst (λ (k : ℕ). T (beq u r || eqb (k * down d) 0)) (sym first) (one-sign u r n (down e) (down d) (ap (λ (i : Bool). signed i n) v.0 ∙ p ∙ ap (λ (i : Bool). signed i n) (sym w.0))))

pub eq-whole : {y : Float} {b : ℤ} (x : Float) → Whole y b → T (eq x y) ↔ Whole x b
eq-whole {y} {b} x Y =
    let v = view y b Y in (
      (λ h. same_whole v.is (eq-to x y v.sign v.size v.value h)),
      (λ X.
          let u = view x b X in
          let e : signed u.sign u.size ≡ signed v.sign v.size = u.is ∙ sym v.is in
          let n : u.size ≡ v.size = sym (nat_abs-signed u.sign u.size) ∙ ap nat_abs e ∙ nat_abs-signed v.sign v.size in
          eq_of x y u.sign v.sign v.size (subst (λ (k : ℕ). HasValue x u.sign k 1) n u.value) v.value (ap (λ (k : ℕ). signed u.sign k) (sym n) ∙ e)),
    )

-- ---- a whole number as a float: a natural number stands for itself, and a float from +0 up is that of what it stands for
pub of_int-whole : (n : ℕ) → n ≤ 2 ^ 53 → Whole (of_int binary64 (pos n)) (pos n)
unfolding of_int
of_int-whole n h = of_value (of_int binary64 (pos n)) false n (round_whole binary64 false n h)

from-zero-sign : (x : Float) (s : Bool) (n : ℕ) → T (from_zero x) → HasValue x s n 1 → s ≡ false
from-zero-sign nan s n p v = absurd v
from-zero-sign (inf t) s n p v = absurd v
from-zero-sign (fin true m e) s n p v = absurd p
from-zero-sign (fin false m e) s n p v = sym v.0

pub from-zero-of_int : {x : Float} {z : ℤ} → T (fits binary64 x) → T (from_zero x) → Within (2 ^ 53) x z → x ≡ of_int binary64 z
unfolding of_int
from-zero-of_int {x} {z} p q X =
    let u = view x z X.exact in
    let n = u.size in
    let s : u.sign ≡ false = from-zero-sign x u.sign n q u.value in
    let e : pos n ≡ z = ap (λ (i : Bool). signed i n) (sym s) ∙ u.is in
    let k = ap nat_abs e in
    let h = X.bound in
    let l : n ≤ 2 ^ 53 = omega arith in
    whole_unique binary64 x (of_int binary64 (pos n)) false n p (of_int-fits binary64 (pos n)) (subst (λ (i : Bool). HasValue x i n 1) s u.value) (round_whole binary64 false n l) ∙ ap (of_int binary64) e

-- ---- the size of a float
pub absolute-whole : {x : Float} {a : ℤ} → Whole x a → Whole (absolute x) (pos (nat_abs a))
absolute-whole {x} {a} X = of_value (absolute x) false (nat_abs a) (absolute-value X)

-- the size of x is whole only where x is
pub absolute-back : (x : Float) (n : ℕ) → Whole (absolute x) (pos n) → T (is_whole x) × (nat_abs (whole_of x) ≡ n)
unfolding is_whole whole_of
absolute-back nan n X = absurd X.whole
absolute-back (inf s) n X = absurd X.whole
absolute-back (fin s m e) n X = (X.whole, nat_abs-signed s (m * up e / down e) ∙ ap nat_abs X.value)
