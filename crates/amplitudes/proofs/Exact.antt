-- The operations on whole numbers are exact in binary64 where the exact result is at most 2 ^ 53 in
-- size. Assumes nothing. `mul-exact`, `add-exact`, `sub-exact`, `neg-exact` and `div-exact` say it
-- of `Whole`. `mul-within` and its like carry a bound along, so that at numerals each side
-- condition is `lit≤ tt`.
use Rattle.std.specs.Prelude.{◌≢◌, ◌≡◌, refl, ℕ, zero, suc, ◌+◌, ◌-◌, ◌*◌, ◌^◌, ◌≤◌, ◌<◌, Bool, not, cond, ℤ, pos, negsuc, nat_abs, ◌+ℤ◌, ◌-ℤ◌, ◌*ℤ◌, T, ltb, eqb, Float}
use Rattle.std.proofs.Common.{sym, ap, ap₂, ◌∙◌, subst, le_trans, le_of_eq, le_of_lt, zero-lt-suc, mul-one, mul_assoc, mul_comm, mul_left_comm, mul-pos, add-mul, mul-le-mul, zero-mul, le_of_mul-le-mul_right, lt_of_mul-lt-mul_right, add-le-add, ltb→lt, nltb→le, eqb→eq}
use Rattle.std.proofs.Math.Nat.{mul-sub}
use native.Mathlib.Omega.{arith}
use Rattle.std.proofs.Math.Bool.{true, false}
use Rattle.std.proofs.Math.IntN.{neg_ℤ, neg_ℤ-+ℤ, +ℤ_comm}
use Rattle.std.proofs.Math.Dec.{not_T}
use Rattle.std.specs.Float.{nan, inf, fin}
use Rattle.std.specs.Float.Ieee.{binary64, up, down, unlike, round, sum, add, sub, mul, div, neg}
use Rattle.std.specs.Float.Ieee.Fits.{up_pos, down_pos}
use Rattle.std.specs.Float.Ieee.Bits.{cond_no}
use Rattle.std.specs.Float.Ieee.Exact.{HasValue}
use Rattle.std.specs.Float.Ieee.Back.{round_whole}
use Rattle.std.specs.Float.Ieee.Scale.{round_same}
use Rattle.amplitudes.specs.Numbers.{signed, Whole, Within}
use Rattle.amplitudes.proofs.Whole.{view, of_value, same_whole, nat_abs-signed, same_parts}
use Rattle.amplitudes.proofs.Sizes.{neg-signed, mul-signed, sub-above, sub-below, nat_abs-neg, nat_abs_mul, nat_abs-add}

-- ---- a fraction N / c that is a whole number up to 2 ^ 53 in size is not changed by rounding
round-whole-fraction : (s : Bool) (N c n : ℕ) (z : ℤ) → 0 < c → N ≡ n * c → z ≡ signed s n → nat_abs z ≤ 2 ^ 53 → Whole (round binary64 s N c) z
round-whole-fraction s N c n z C p e h =
    let l : n ≤ 2 ^ 53 = le_trans (le_of_eq (sym (ap nat_abs e ∙ nat_abs-signed s n))) h in
    same_whole (sym e)
    (of_value (round binary64 s N c) s n
    (subst (λ (x : Float). HasValue x s n 1) (sym (round_same binary64 s N c n 1 C (zero-lt-suc 0) (mul-one N ∙ p))) (round_whole binary64 s n l)))

-- ---- product
mul-values : (x y : Float) (s t : Bool) (a b : ℕ) (z : ℤ) → HasValue x s a 1 → HasValue y t b 1 → z ≡ signed (unlike s t) (a * b) → nat_abs z ≤ 2 ^ 53 → Whole (mul binary64 x y) z
unfolding mul
mul-values nan y s t a b z v w e h = absurd v
mul-values (inf u) y s t a b z v w e h = absurd v
mul-values (fin u m k) nan s t a b z v w e h = absurd w
mul-values (fin u m k) (inf r) s t a b z v w e h = absurd w
mul-values (fin u m k) (fin r n l) s t a b z v w e h =
    round-whole-fraction (unlike u r) (m * up k * (n * up l)) (down k * down l) (a * b) z (mul-pos (down_pos k) (down_pos l))
    (ap₂ ◌*◌ (sym (mul-one (m * up k)) ∙ v.1) (sym (mul-one (n * up l)) ∙ w.1) ∙ simp (mul_assoc, mul_left_comm))
    (e ∙ ap (λ (i : Bool). signed i (a * b)) (sym (ap₂ unlike v.0 w.0))) h

pub mul-exact : {x y : Float} {a b : ℤ} → Whole x a → Whole y b → nat_abs (a *ℤ b) ≤ 2 ^ 53 → Whole (mul binary64 x y) (a *ℤ b)
mul-exact {x} {y} {a} {b} X Y h =
    let u = view x a X in
    let v = view y b Y in
    mul-values x y u.sign v.sign u.size v.size (a *ℤ b) u.value v.value (sym (ap₂ ◌*ℤ◌ u.is v.is) ∙ mul-signed u.sign v.sign u.size v.size) h

-- ---- sum of ±a and ±b as the fractions ±A / c and ±B / c: where the signs differ, by which is the larger
scaled-sub : (A B c a b : ℕ) → A ≡ a * c → B ≡ b * c → A - B ≡ (a - b) * c
scaled-sub A B c a b p q = ap₂ ◌-◌ (p ∙ mul_comm a c) (q ∙ mul_comm b c) ∙ sym (mul-sub c a b) ∙ mul_comm c (a - b)

module _ (A B c a b : ℕ) (C : 0 < c) (p : A ≡ a * c) (q : B ≡ b * c) where
  less : A < B → a ≤ b
  less h = le_of_lt (lt_of_mul-lt-mul_right c (subst (λ (k : ℕ). k < b * c) p (subst (λ (k : ℕ). A < k) q h)))

  most : B ≤ A → b ≤ a
  most h = le_of_mul-le-mul_right (subst (λ (k : ℕ). k ≤ a * c) q (subst (λ (k : ℕ). B ≤ k) p h)) C

  plus-minus : nat_abs (pos a +ℤ neg_ℤ (pos b)) ≤ 2 ^ 53 → Whole (sum binary64 false A true B c) (pos a +ℤ neg_ℤ (pos b))
  unfolding sum
  plus-minus h = go (ltb A B) (ltb→lt A B) (nltb→le A B)
    where
      go : (k : Bool) → (T k → A < B) → (T (not k) → B ≤ A) → Whole (cond k (round binary64 true (B - A) c) (round binary64 false (A - B) c)) (pos a +ℤ neg_ℤ (pos b))
      go true f g = round-whole-fraction true (B - A) c (b - a) (pos a +ℤ neg_ℤ (pos b)) C (scaled-sub B A c b a q p) (sub-below a b (less (f tt))) h
      go false f g = round-whole-fraction false (A - B) c (a - b) (pos a +ℤ neg_ℤ (pos b)) C (scaled-sub A B c a b p q) (sub-above a b (most (g tt))) h

  minus_plus : nat_abs (pos b +ℤ neg_ℤ (pos a)) ≤ 2 ^ 53 → Whole (sum binary64 true A false B c) (pos b +ℤ neg_ℤ (pos a))
  unfolding sum
  minus_plus h = go (ltb A B) (ltb→lt A B) (nltb→le A B)
    where
      both_zero : a ≤ b → b ≤ a → b - a ≡ a - b
      both_zero f g = omega arith

      last : (k : Bool) → (T (not k) → A ≤ B) → b ≤ a → pos b +ℤ neg_ℤ (pos a) ≡ signed k (a - b)
      last true g l = sub-below b a l
      last false g l = let u : a ≤ b = le_of_mul-le-mul_right (subst (λ (k : ℕ). k ≤ b * c) p (subst (λ (k : ℕ). A ≤ k) q (g tt))) C in sub-above b a u ∙ ap pos (both_zero u l)

      go : (k : Bool) → (T k → A < B) → (T (not k) → B ≤ A) → Whole (cond k (round binary64 false (B - A) c) (round binary64 (ltb B A) (A - B) c)) (pos b +ℤ neg_ℤ (pos a))
      go true f g = round-whole-fraction false (B - A) c (b - a) (pos b +ℤ neg_ℤ (pos a)) C (scaled-sub B A c b a q p) (sub-above b a (less (f tt))) h
      go false f g = round-whole-fraction (ltb B A) (A - B) c (a - b) (pos b +ℤ neg_ℤ (pos a)) C (scaled-sub A B c a b p q) (last (ltb B A) (nltb→le B A) (most (g tt))) h

sum-values : (s t : Bool) (A B c a b : ℕ) → 0 < c → A ≡ a * c → B ≡ b * c → nat_abs (signed s a +ℤ signed t b) ≤ 2 ^ 53 → Whole (sum binary64 s A t B c) (signed s a +ℤ signed t b)
unfolding sum
sum-values false false A B c a b C p q h = round-whole-fraction false (A + B) c (a + b) (pos (a + b)) C (ap₂ ◌+◌ p q ∙ sym (add-mul a b c)) refl h
sum-values true true A B c a b C p q h = round-whole-fraction true (A + B) c (a + b) (neg_ℤ (pos a) +ℤ neg_ℤ (pos b)) C (ap₂ ◌+◌ p q ∙ sym (add-mul a b c)) (sym (neg_ℤ-+ℤ (pos a) (pos b))) h
sum-values false true A B c a b C p q h = plus-minus A B c a b C p q h
sum-values true false A B c a b C p q h =
    let e : pos b +ℤ neg_ℤ (pos a) ≡ neg_ℤ (pos a) +ℤ pos b = +ℤ_comm (pos b) (neg_ℤ (pos a)) in
    same_whole e (minus_plus A B c a b C p q (subst (λ (z : ℤ). nat_abs z ≤ 2 ^ 53) (sym e) h))

add-values : (x y : Float) (s t : Bool) (a b : ℕ) → HasValue x s a 1 → HasValue y t b 1 → nat_abs (signed s a +ℤ signed t b) ≤ 2 ^ 53 → Whole (add binary64 x y) (signed s a +ℤ signed t b)
unfolding add
add-values nan y s t a b v w h = absurd v
add-values (inf u) y s t a b v w h = absurd v
add-values (fin u m k) nan s t a b v w h = absurd w
add-values (fin u m k) (inf r) s t a b v w h = absurd w
add-values (fin u m k) (fin r n l) s t a b v w h =
    subst (λ (i : Bool). Whole (sum binary64 i (m * up k * down l) r (n * up l * down k) (down k * down l)) (signed s a +ℤ signed t b)) (sym v.0)
    (subst (λ (i : Bool). Whole (sum binary64 s (m * up k * down l) i (n * up l * down k) (down k * down l)) (signed s a +ℤ signed t b)) (sym w.0)
    (sum-values s t (m * up k * down l) (n * up l * down k) (down k * down l) a b (mul-pos (down_pos k) (down_pos l))
    (ap (λ (i : ℕ). i * down l) (sym (mul-one (m * up k)) ∙ v.1) ∙ mul_assoc a (down k) (down l))
    (ap (λ (i : ℕ). i * down k) (sym (mul-one (n * up l)) ∙ w.1) ∙ mul_assoc b (down l) (down k) ∙ ap (λ (i : ℕ). b * i) (mul_comm (down l) (down k))) h))

pub add-exact : {x y : Float} {a b : ℤ} → Whole x a → Whole y b → nat_abs (a +ℤ b) ≤ 2 ^ 53 → Whole (add binary64 x y) (a +ℤ b)
add-exact {x} {y} {a} {b} X Y h =
    let u = view x a X in
    let v = view y b Y in
    let e : signed u.sign u.size +ℤ signed v.sign v.size ≡ a +ℤ b = ap₂ ◌+ℤ◌ u.is v.is in
    same_whole e (add-values x y u.sign v.sign u.size v.size u.value v.value (subst (λ (z : ℤ). nat_abs z ≤ 2 ^ 53) (sym e) h))

-- ---- negation and difference
neg_value : (x : Float) (s : Bool) (n : ℕ) → HasValue x s n 1 → HasValue (neg x) (not s) n 1
unfolding neg
neg_value nan s n v = v
neg_value (inf t) s n v = v
neg_value (fin t m e) s n v = (ap not v.0, v.1)

pub neg-exact : {x : Float} {a : ℤ} → Whole x a → Whole (neg x) (neg_ℤ a)
neg-exact {x} {a} X =
    let u = view x a X in
    same_whole (sym (neg-signed u.sign u.size) ∙ ap neg_ℤ u.is) (of_value (neg x) (not u.sign) u.size (neg_value x u.sign u.size u.value))

pub sub-exact : {x y : Float} {a b : ℤ} → Whole x a → Whole y b → nat_abs (a -ℤ b) ≤ 2 ^ 53 → Whole (sub binary64 x y) (a -ℤ b)
unfolding sub
sub-exact X Y h = add-exact X (neg-exact Y) h

-- ---- quotient: b c / b is c
unlike-back : (t u : Bool) → unlike (unlike t u) t ≡ u
unlike-back true true = refl
unlike-back true false = refl
unlike-back false true = refl
unlike-back false false = refl

signed-zero : (s t : Bool) → signed s 0 ≡ signed t 0
signed-zero true true = refl
signed-zero true false = refl
signed-zero false true = refl
signed-zero false false = refl

size-pos : (s : Bool) (n : ℕ) → signed s n ≢ pos 0 → 0 < n
size-pos s zero f = absurd (f (signed-zero s false))
size-pos s (suc n) f = zero-lt-suc n

-- the sign and the size of c, by those of b c and of b
quotient-size : (s t u : Bool) (A B C : ℕ) → signed s A ≡ signed t B *ℤ signed u C → A ≡ C * B
quotient-size s t u A B C e = sym (nat_abs-signed s A) ∙ ap nat_abs (e ∙ mul-signed t u B C) ∙ nat_abs-signed (unlike t u) (B * C) ∙ mul_comm B C

quotient-sign : (s t u : Bool) (A B C : ℕ) → 0 < B → signed s A ≡ signed t B *ℤ signed u C → signed u C ≡ signed (unlike s t) C
quotient-sign s t u A B zero P e = signed-zero u (unlike s t)
quotient-sign s t u A B (suc C) P e =
    let f : A ≡ suc C * B = quotient-size s t u A B (suc C) e in
    let l : 0 < A = subst (λ (n : ℕ). 0 < n) (sym f) (mul-pos (zero-lt-suc C) P) in
    let n : signed s A ≢ pos 0 = λ z. let k = sym (nat_abs-signed s A) ∙ ap nat_abs z in omega arith in
    let g : s ≡ unlike t u = (same_parts s (unlike t u) A (B * suc C) n (e ∙ mul-signed t u B (suc C))).0 in
    ap (λ (i : Bool). signed i (suc C)) (sym (ap (λ (i : Bool). unlike i t) g ∙ unlike-back t u))

div-fin : (u r : Bool) (m q : ℕ) (k l : ℤ) → div binary64 (fin u m k) (fin r (suc q) l) ≡ round binary64 (unlike u r) (m * up k * down l) (suc q * up l * down k)
unfolding div
div-fin u r m q k l = cond_no (eqb (suc q) 0) (cond (eqb m 0) nan (inf (unlike u r))) (round binary64 (unlike u r) (m * up k * down l) (suc q * up l * down k)) (not_T (eqb (suc q) 0) (λ t. let h = eqb→eq (suc q) 0 t in omega arith))

div-values : (x y : Float) (s t : Bool) (A B n : ℕ) (z : ℤ) → 0 < B → HasValue x s A 1 → HasValue y t B 1 → A ≡ n * B → z ≡ signed (unlike s t) n → nat_abs z ≤ 2 ^ 53 → Whole (div binary64 x y) z
div-values nan y s t A B n z P v w p e h = absurd v
div-values (inf u) y s t A B n z P v w p e h = absurd v
div-values (fin u m k) nan s t A B n z P v w p e h = absurd w
div-values (fin u m k) (inf r) s t A B n z P v w p e h = absurd w
div-values (fin u m k) (fin r zero l) s t A B n z P v w p e h =
    let d : 0 < B * down l = mul-pos P (down_pos l) in
    let o = zero-mul (up l) in
    let q = w.1 in
    absurd (omega arith)
div-values (fin u m k) (fin r (suc q) l) s t A B n z P v w p e h =
    let c : n * B * down k * down l ≡ n * (B * down l * down k) = simp (mul_assoc, mul_comm, mul_left_comm) in
    subst (λ (x : Float). Whole x z) (sym (div-fin u r m q k l))
    (round-whole-fraction (unlike u r) (m * up k * down l) (suc q * up l * down k) n z (mul-pos (mul-pos (zero-lt-suc q) (up_pos l)) (down_pos k))
    (ap (λ (i : ℕ). i * down l) (sym (mul-one (m * up k)) ∙ v.1 ∙ ap (λ (i : ℕ). i * down k) p) ∙ c ∙ ap (λ (i : ℕ). n * (i * down k)) (sym (sym (mul-one (suc q * up l)) ∙ w.1)))
    (e ∙ ap (λ (i : Bool). signed i n) (sym (ap₂ unlike v.0 w.0))) h)

sign_of : ℤ → Bool
sign_of (pos n) = false
sign_of (negsuc n) = true

signed-own : (z : ℤ) → signed (sign_of z) (nat_abs z) ≡ z
unfolding sign_of
signed-own (pos n) = refl
signed-own (negsuc n) = refl

pub div-exact : {x y : Float} {b c : ℤ} → Whole x (b *ℤ c) → Whole y b → b ≢ pos 0 → nat_abs c ≤ 2 ^ 53 → Whole (div binary64 x y) c
div-exact {x} {y} {b} {c} X Y f h =
    let u = view x (b *ℤ c) X in
    let v = view y b Y in
    let e = u.is ∙ sym (ap₂ ◌*ℤ◌ v.is (signed-own c)) in
    let P : 0 < v.size = size-pos v.sign v.size (λ z. f (sym v.is ∙ z)) in
    div-values x y u.sign v.sign u.size v.size (nat_abs c) c P u.value v.value
    (quotient-size u.sign v.sign (sign_of c) u.size v.size (nat_abs c) e)
    (sym (signed-own c) ∙ quotient-sign u.sign v.sign (sign_of c) u.size v.size (nat_abs c) P e) h

-- ---- with bounds that are carried along
pub mul-within : {A B : ℕ} {x y : Float} {a b : ℤ} → Within A x a → Within B y b → A * B ≤ 2 ^ 53 → Within (A * B) (mul binary64 x y) (a *ℤ b)
mul-within {a = a} {b = b} X Y h =
    let l = le_trans (le_of_eq (nat_abs_mul a b)) (mul-le-mul X.bound Y.bound) in
    record { exact = mul-exact X.exact Y.exact (le_trans l h); bound = l }

pub add-within : {A B : ℕ} {x y : Float} {a b : ℤ} → Within A x a → Within B y b → A + B ≤ 2 ^ 53 → Within (A + B) (add binary64 x y) (a +ℤ b)
add-within {a = a} {b = b} X Y h =
    let l = le_trans (nat_abs-add a b) (add-le-add X.bound Y.bound) in
    record { exact = add-exact X.exact Y.exact (le_trans l h); bound = l }

pub neg-within : {B : ℕ} {x : Float} {a : ℤ} → Within B x a → Within B (neg x) (neg_ℤ a)
neg-within {a = a} X = record { exact = neg-exact X.exact; bound = le_trans (le_of_eq (nat_abs-neg a)) X.bound }

pub sub_within : {A B : ℕ} {x y : Float} {a b : ℤ} → Within A x a → Within B y b → A + B ≤ 2 ^ 53 → Within (A + B) (sub binary64 x y) (a -ℤ b)
unfolding sub
sub_within X Y h = add-within X (neg-within Y) h
