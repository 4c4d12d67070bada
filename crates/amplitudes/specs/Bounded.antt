-- Sizes under rounding: a fraction of size at most 2 ^ k, with k up to 1023, rounds to a float of
-- size at most 2 ^ k. So gates and divisions of floats of moderate size never overflow. Nothing is
-- asked of how a float is written. Assumes nothing.
use Rattle.std.specs.Prelude.{◌≡◌, Bool, true, false, not, ◌&&◌, cond, ℤ, T, ltb, eqb, Float}
use Rattle.std.proofs.Common.{sym, ap, ◌∙◌, subst, le_trans, le_of_eq, le_of_lt, le_refl, lt_of_le_of_lt, mul-one, one-mul, mul_assoc, mul_comm, mul_right_comm, mul-le-mul, mul-le-mul_right, le_of_mul-le-mul_right, mul-pos, mul-lt-mul_of_pos_right, div-one, pow-suc, div-lt_iff_lt-mul, arith, ltb→lt, eqb→eq, lit≤, pow-add, pow_pos}
use Prim.Native.Nat.{ℕ, suc, ◌+◌, ◌-◌, ◌*◌, ◌/◌, ◌^◌, ◌≤◌, ◌<◌, zero-le, compare}
use Rattle.std.proofs.Math.Nat.{mul-mul-mul_comm, mod-one}
use Rattle.std.specs.Bool.{beq}
use Rattle.std.proofs.Math.Pow.{pow-lt}
use Rattle.std.specs.Float.{nan, inf, fin, binary64}
use Rattle.std.specs.Float.Ieee.{up, down, size, nearest, units, round, sum, add, sub, mul, div, neg, unlike}
use Rattle.std.specs.Float.Ieee.Digits.{size-le, back}
use Rattle.std.specs.Float.Ieee.Fits.{round_is, down_pos, and_i, and_l, and_r}
use Rattle.std.specs.Float.Ieee.Bits.{is_true}
use Rattle.std.specs.Float.Ieee.Exact.{HasValue, units_val}
use Rattle.std.specs.Float.Ieee.Nearest.{closest, closest_mono}
use Rattle.std.specs.Float.Ieee.Order.{drop, kept}
use Rattle.std.specs.Float.Ieee.Positive.{first_pos}
use Rattle.std.specs.Float.Ieee.Scale.{finite}
use Rattle.amplitudes.specs.declared.Complex.{Complex}
use Rattle.amplitudes.specs.declared.U4.{U4}
use Rattle.amplitudes.specs.Amplitudes.{times, plus, over, finite_c, finite_gate}
use Rattle.amplitudes.specs.Pairs.{stay_of, flip_of, applied, accumulated, combined}
use Rattle.amplitudes.specs.Moderate.{within, within_c, moderate_c, moderate_gate, away_from_zero}

-- x is finite, and its size is at most 2 ^ k
abbrev UpTo : ℕ → Float → Type 0
UpTo k nan = ⊥
UpTo k (inf s) = ⊥
UpTo k (fin s m e) = m * up e ≤ 2 ^ k * down e

-- ---- rounding. A fraction n / c up to 2 ^ K: what is kept of it, times the power of two that was dropped, is up to 2 ^ K too
closest-whole : (x : ℕ) → closest x 1 ≡ x
closest-whole x = ap (λ (r : ℕ). nearest (x / 1) (compare (r * 2) 1)) (mod-one x) ∙ div-one x

short : (z K : ℕ) → z ≤ suc K → z - 53 ≤ K
short z K h = omega arith

units-up-to : (n c K : ℕ) → 0 < c → n ≤ 2 ^ K * c → kept 53 n c * 2 ^ drop 53 n c ≤ 2 ^ K
units-up-to n c K C h =
    let d = drop 53 n c in
    let z : n / c < 2 ^ suc K = (div-lt_iff_lt-mul C).1 (lt_of_le_of_lt h (mul-lt-mul_of_pos_right (pow-lt (le_refl (suc K))) C)) in
    let l : d ≤ K = short (size (n / c)) K (size-le (n / c) (suc K) z) in
    let e : 2 ^ (K - d) * 2 ^ d ≡ 2 ^ K = sym (pow-add 2 (K - d) d) ∙ ap (λ (x : ℕ). 2 ^ x) (back K d l) in
    let r : n * 1 ≤ 2 ^ (K - d) * (c * 2 ^ d) =
    le_trans (le_of_eq (mul-one n)) (le_trans h (le_of_eq (ap (λ (x : ℕ). x * c) (sym e) ∙ mul_right_comm (2 ^ (K - d)) (2 ^ d) c ∙ mul_assoc (2 ^ (K - d)) c (2 ^ d)))) in
    le_trans (mul-le-mul_right (2 ^ d) (le_trans (closest_mono n (c * 2 ^ d) (2 ^ (K - d)) 1 (mul-pos C (pow_pos d)) (pow_pos 0) r) (le_of_eq (closest-whole (2 ^ (K - d)))))) (le_of_eq e)

of-units : (x : Float) (s : Bool) (a k l : ℕ) → HasValue x s a (2 ^ l) → a ≤ 2 ^ (k + l) → UpTo k x
of-units nan s a k l v h = v
of-units (inf t) s a k l v h = v
of-units (fin t m e) s a k l v h =
    le_of_mul-le-mul_right
    (le_trans (le_of_eq v.1) (le_trans (mul-le-mul_right (down e) h) (le_of_eq (ap (λ (x : ℕ). x * down e) (pow-add 2 k l) ∙ mul_right_comm (2 ^ k) (2 ^ l) (down e)))))
    (pow_pos l)

round-up-to : (s : Bool) (a c k : ℕ) → 0 < c → k ≤ 1023 → a ≤ 2 ^ k * c → UpTo k (round binary64 s a c)
round-up-to s a c k C K h =
    let n = a * 2 ^ 1074 in
    let b : n ≤ 2 ^ (k + 1074) * c = le_trans (mul-le-mul_right (2 ^ 1074) h) (le_of_eq (mul_right_comm (2 ^ k) c (2 ^ 1074) ∙ ap (λ (x : ℕ). x * c) (sym (pow-add 2 k 1074)))) in
    let u = units-up-to n c (k + 1074) C b in
    subst (UpTo k) (sym (round_is binary64 s a c))
    (of-units (units binary64 s (kept 53 n c) (drop 53 n c)) s (kept 53 n c * 2 ^ drop 53 n c) k 1074 (units_val binary64 s (kept 53 n c) (drop 53 n c) (lt_of_le_of_lt u (pow-lt {i = k + 1074} {j = 2098} (omega arith)))) u)

-- ---- the operations
sum-up-to : (s : Bool) (a : ℕ) (t : Bool) (b c k : ℕ) → 0 < c → k ≤ 1023 → a + b ≤ 2 ^ k * c → UpTo k (sum binary64 s a t b c)
unfolding sum
sum-up-to s a t b c k C K h = go (beq s t) (ltb a b)
  where
    go : (p q : Bool) → UpTo k (cond p (round binary64 s (a + b) c) (cond q (round binary64 t (b - a) c) (round binary64 (s && ltb b a) (a - b) c)))
    go true q = round-up-to s (a + b) c k C K h
    go false true = round-up-to t (b - a) c k C K (omega arith)
    go false false = round-up-to (s && ltb b a) (a - b) c k C K (omega arith)

add-up-to : (k : ℕ) (x y : Float) → k < 1023 → UpTo k x → UpTo k y → UpTo (suc k) (add binary64 x y)
unfolding add
add-up-to k nan y K p q = p
add-up-to k (inf s) y K p q = absurd p
add-up-to k (fin s m e) nan K p q = q
add-up-to k (fin s m e) (inf t) K p q = q
add-up-to k (fin s m e) (fin t n d) K p q =
    sum-up-to s (m * up e * down d) t (n * up d * down e) (down e * down d) (suc k) (mul-pos (down_pos e) (down_pos d)) K
    (double (m * up e * down d) (n * up d * down e) (2 ^ k * (down e * down d)) (2 ^ suc k * (down e * down d))
    (le_trans (mul-le-mul_right (down d) p) (le_of_eq (mul_assoc (2 ^ k) (down e) (down d))))
    (le_trans (mul-le-mul_right (down e) q) (le_of_eq (mul_assoc (2 ^ k) (down d) (down e) ∙ ap (λ (x : ℕ). 2 ^ k * x) (mul_comm (down d) (down e)))))
    (ap (λ (x : ℕ). x * (down e * down d)) (pow-suc 2 k) ∙ mul_right_comm (2 ^ k) 2 (down e * down d)))
  where
    double : (a b c d : ℕ) → a ≤ c → b ≤ c → d ≡ c * 2 → a + b ≤ d
    double a b c d h g f = omega arith

neg-up-to : (k : ℕ) (x : Float) → UpTo k x → UpTo k (neg x)
unfolding neg
neg-up-to k nan p = p
neg-up-to k (inf s) p = p
neg-up-to k (fin s m e) p = p

sub-up-to : (k : ℕ) (x y : Float) → k < 1023 → UpTo k x → UpTo k y → UpTo (suc k) (sub binary64 x y)
unfolding sub
sub-up-to k x y K p q = add-up-to k x (neg y) K p (neg-up-to k y q)

mul-up-to : (j k : ℕ) (x y : Float) → j + k ≤ 1023 → UpTo j x → UpTo k y → UpTo (j + k) (mul binary64 x y)
unfolding mul
mul-up-to j k nan y K p q = p
mul-up-to j k (inf s) y K p q = absurd p
mul-up-to j k (fin s m e) nan K p q = q
mul-up-to j k (fin s m e) (inf t) K p q = absurd q
mul-up-to j k (fin s m e) (fin t n d) K p q =
    round-up-to (unlike s t) (m * up e * (n * up d)) (down e * down d) (j + k) (mul-pos (down_pos e) (down_pos d)) K
    (le_trans (mul-le-mul p q) (le_of_eq (mul-mul-mul_comm (2 ^ j) (down e) (2 ^ k) (down d) ∙ ap (λ (x : ℕ). x * (down e * down d)) (sym (pow-add 2 j k)))))

-- ---- moderate size
below-limit : (k m : ℕ) (e : ℤ) → T (ltb (m * up e * 1) (1 * 2 ^ k * down e)) → m * up e ≤ 2 ^ k * down e
below-limit k m e t =
    le_trans (le_of_eq (sym (mul-one (m * up e)))) (le_trans (le_of_lt (ltb→lt (m * up e * 1) (1 * 2 ^ k * down e) t)) (le_of_eq (ap (λ (x : ℕ). x * down e) (one-mul (2 ^ k)))))

within-up-to : (k : ℕ) (x : Float) → T (within k x) → UpTo k x
unfolding within
within-up-to k nan t = t
within-up-to k (inf s) t = t
within-up-to k (fin s m e) t = below-limit k m e t

up-to-finite : (k : ℕ) (x : Float) → UpTo k x → T (finite x)
up-to-finite k nan p = p
up-to-finite k (inf s) p = p
up-to-finite k (fin s m e) p = tt

-- the numbers of a quotient: m / e is up to K, and d / n below L
quotient : (m e n d K L : ℕ) → m ≤ K * e → d < n * L → m * d ≤ K * L * (n * e)
quotient m e n d K L h g = le_trans (mul-le-mul h (le_of_lt g)) (le_of_eq (ap (λ (x : ℕ). K * e * x) (mul_comm n L) ∙ mul-mul-mul_comm K e L n ∙ ap (λ (x : ℕ). K * L * x) (mul_comm e n)))

above-limit : (n : ℕ) (d : ℤ) → T (ltb (1 * 1 * down d) (n * up d * 2 ^ 500)) → down d < n * up d * 2 ^ 500
above-limit n d t = ltb→lt (down d) (n * up d * 2 ^ 500) (subst (λ (x : ℕ). T (ltb x (n * up d * 2 ^ 500))) (one-mul (down d)) t)

div-up-to : (x y : Float) → UpTo 513 x → T (away_from_zero y) → UpTo 1013 (div binary64 x y)
unfolding div away_from_zero
div-up-to nan y p t = p
div-up-to (inf s) y p t = absurd p
div-up-to (fin s m e) nan p t = t
div-up-to (fin s m e) (inf u) p t = zero-le
div-up-to (fin s m e) (fin u n d) p t =
    let g : down d < n * up d * 2 ^ 500 = above-limit n d t in
    let N : 0 < n * up d = first_pos (n * up d) (2 ^ 500) (lt_of_le_of_lt zero-le g) in
    go (eqb n 0) (λ z. not-zero n (first_pos n (up d) N) (eqb→eq n 0 z))
    (round-up-to (unlike s u) (m * up e * down d) (n * up d * down e) 1013 (mul-pos N (down_pos e)) (lit≤ tt) (quotient (m * up e) (down e) (n * up d) (down d) (2 ^ 513) (2 ^ 500) p g))
  where
    not-zero : (n : ℕ) → 0 < n → n ≡ 0 → ⊥
    not-zero n h z = omega arith

    go : (b : Bool) → (T b → ⊥) → UpTo 1013 (round binary64 (unlike s u) (m * up e * down d) (n * up d * down e))
        → UpTo 1013 (cond b (cond (eqb m 0) nan (inf (unlike s u))) (round binary64 (unlike s u) (m * up e * down d) (n * up d * down e)))
    go true f r = absurd (f tt)
    go false f r = r

-- ---- amplitudes
abbrev UpToC : ℕ → Complex → Type 0
UpToC k a = UpTo k a.re × UpTo k a.im

of-within : (k : ℕ) (a : Complex) → T (within_c k a) → UpToC k a
of-within k a t =
    let R = within k a.re in
    let I = within k a.im in
    (within-up-to k a.re (and_l R I t), within-up-to k a.im (and_r R I t))

all-finite : (k : ℕ) (a : Complex) → UpToC k a → T (finite_c a)
all-finite k a p = and_i (finite a.re) (finite a.im) (up-to-finite k a.re p.0) (up-to-finite k a.im p.1)

times-up-to : (g a : Complex) → UpToC 500 g → UpToC 513 a → UpToC 1014 (times g a)
unfolding times
times-up-to g a p q =
    let product : (x y : Float) → UpTo 500 x → UpTo 513 y → UpTo 1013 (mul binary64 x y) = λ x y h i. mul-up-to 500 513 x y (lit≤ tt) h i in (
      sub-up-to 1013 (mul binary64 g.re a.re) (mul binary64 g.im a.im) (lit≤ tt) (product g.re a.re p.0 q.0) (product g.im a.im p.1 q.1),
      add-up-to 1013 (mul binary64 g.re a.im) (mul binary64 g.im a.re) (lit≤ tt) (product g.re a.im p.0 q.1) (product g.im a.re p.1 q.0),
    )

plus-up-to : (a b : Complex) → UpToC 1014 a → UpToC 1014 b → UpToC 1015 (plus a b)
unfolding plus
plus-up-to a b p q = (add-up-to 1014 a.re b.re (lit≤ tt) p.0 q.0, add-up-to 1014 a.im b.im (lit≤ tt) p.1 q.1)

-- ---- the laws
of-true : {b : Bool} → b ≡ true → T b
of-true e = subst T (sym e) tt

pub moderate-finite-amplitude : (a : Complex) → moderate_c a ≡ true → finite_c a ≡ true
moderate-finite-amplitude a e = is_true (finite_c a) (all-finite 513 a (of-within 513 a (of-true e)))

pub moderate-times : (g a : Complex) → within_c 500 g ≡ true → moderate_c a ≡ true → finite_c (times g a) ≡ true
moderate-times g a p q = is_true (finite_c (times g a)) (all-finite 1014 (times g a) (times-up-to g a (of-within 500 g (of-true p)) (of-within 513 a (of-true q))))

pub moderate-over : (a : Complex) (s : Float) → moderate_c a ≡ true → away_from_zero s ≡ true → finite_c (over a s) ≡ true
unfolding over
moderate-over a s p q =
    let h = of-within 513 a (of-true p) in
    is_true (finite_c (over a s)) (all-finite 1013 (over a s) (div-up-to a.re s h.0 (of-true q), div-up-to a.im s h.1 (of-true q)))

-- a gate: the factors that an amplitude meets
stay-within : (g : U4) (set : Bool) → T (moderate_gate g) → T (within_c 500 (stay_of g set))
stay-within g false t = and_l (within_c 500 g.s0) (within_c 500 g.f0) (and_l (within_c 500 g.s0 && within_c 500 g.f0) (within_c 500 g.s1 && within_c 500 g.f1) t)
stay-within g true t = and_l (within_c 500 g.s1) (within_c 500 g.f1) (and_r (within_c 500 g.s0 && within_c 500 g.f0) (within_c 500 g.s1 && within_c 500 g.f1) t)

flip-within : (g : U4) (set : Bool) → T (moderate_gate g) → T (within_c 500 (flip_of g set))
flip-within g false t = and_r (within_c 500 g.s0) (within_c 500 g.f0) (and_l (within_c 500 g.s0 && within_c 500 g.f0) (within_c 500 g.s1 && within_c 500 g.f1) t)
flip-within g true t = and_r (within_c 500 g.s1) (within_c 500 g.f1) (and_r (within_c 500 g.s0 && within_c 500 g.f0) (within_c 500 g.s1 && within_c 500 g.f1) t)

pub moderate-finite-gate : (g : U4) → moderate_gate g ≡ true → finite_gate g ≡ true
moderate-finite-gate g e =
    let part : (a : Complex) → T (within_c 500 a) → T (finite_c a) = λ a t. all-finite 500 a (of-within 500 a t) in
    let t = of-true e in
    is_true (finite_gate g)
    (and_i (finite_c g.s0 && finite_c g.f0) (finite_c g.s1 && finite_c g.f1)
    (and_i (finite_c g.s0) (finite_c g.f0) (part g.s0 (stay-within g false t)) (part g.f0 (flip-within g false t)))
    (and_i (finite_c g.s1) (finite_c g.f1) (part g.s1 (stay-within g true t)) (part g.f1 (flip-within g true t))))

-- the two products of an amplitude
pub moderate-applied : (g : U4) (a : Complex) → moderate_gate g ≡ true → moderate_c a ≡ true → (set : Bool) → (finite_c (applied g set a).stay ≡ true) × (finite_c (applied g set a).flip ≡ true)
unfolding applied
moderate-applied g a p q set =
    let t = of-true p in (
      moderate-times (stay_of g set) a (is_true (within_c 500 (stay_of g set)) (stay-within g set t)) q,
      moderate-times (flip_of g set) a (is_true (within_c 500 (flip_of g set)) (flip-within g set t)) q,
    )

-- the sums of a pair
two_products : (u v a b : Complex) → T (within_c 500 u) → T (within_c 500 v) → T (moderate_c a) → T (moderate_c b) → finite_c (plus (times u a) (times v b)) ≡ true
two_products u v a b p q r s =
    let w = plus (times u a) (times v b) in
    is_true (finite_c w) (all-finite 1015 w (plus-up-to (times u a) (times v b) (times-up-to u a (of-within 500 u p) (of-within 513 a r)) (times-up-to v b (of-within 500 v q) (of-within 513 b s))))

pub moderate-pair : (g : U4) (a b : Complex) → moderate_gate g ≡ true → moderate_c a ≡ true → moderate_c b ≡ true → (set : Bool)
    → (finite_c (combined g set a b).stay.sum ≡ true) × (finite_c (combined g set a b).flip.sum ≡ true)
unfolding combined applied accumulated
moderate-pair g a b p q r set =
    let t = of-true p in (
      two_products (stay_of g set) (flip_of g (not set)) a b (stay-within g set t) (flip-within g (not set) t) (of-true q) (of-true r),
      two_products (flip_of g set) (stay_of g (not set)) a b (flip-within g set t) (stay-within g (not set) t) (of-true q) (of-true r),
    )
