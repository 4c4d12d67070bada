-- Comparison by the values, and the absolute value and the larger of two of whole numbers. Assumes
-- nothing.
use Rattle.std.specs.Prelude.{◌≡◌, refl, ℕ, ◌+◌, ◌*◌, ◌≤◌, ◌<◌, max, Bool, true, false, not, cond, ℤ, nat_abs, T, ltb, Float}
use Rattle.std.proofs.Common.{sym, ap, ap₂, ◌∙◌, subst, zero-lt-suc, mul-one, mul_assoc, mul_comm, mul_left_comm, add-mul, mul-pos, not-le_of_lt, lt_of_not-le, arith, ltb→lt, lt→ltb, nltb→le}
use Rattle.std.specs.Float.{nan, inf, fin}
use Rattle.std.specs.Float.Ieee.{up, down, lt, below}
use Rattle.std.specs.Float.Ieee.Fits.{down_pos}
use Rattle.std.specs.Float.Ieee.Exact.{HasValue}
use Rattle.std.specs.Float.Ieee.Order.{transfer}
use Rattle.std.specs.Float.Ieee.Positive.{first_pos}
use Rattle.amplitudes.specs.Amplitudes.{absolute, larger}
use Rattle.amplitudes.specs.Numbers.{Whole}
use Rattle.amplitudes.proofs.Whole.{view, nat_abs-signed}

-- ---- `lt` by the values: x is ±a / c, and y is ±b / d
pub same_test : (p q : Bool) → (T p → T q) → (T q → T p) → p ≡ q
same_test true true f g = refl
same_test true false f g = absurd (f tt)
same_test false true f g = absurd (g tt)
same_test false false f g = refl

ltb_iff : (a b c d : ℕ) → (b ≤ a → d ≤ c) → (d ≤ c → b ≤ a) → ltb a b ≡ ltb c d
ltb_iff a b c d f g = same_test (ltb a b) (ltb c d)
    (λ t. lt→ltb c d (lt_of_not-le (λ (l : d ≤ c). not-le_of_lt (ltb→lt a b t) (g l))))
    (λ t. lt→ltb a b (lt_of_not-le (λ (l : b ≤ a). not-le_of_lt (ltb→lt c d t) (f l))))

-- x / p is a / c and y / q is b / d, so x / p < y / q where a / c < b / d
ltb-cross : (x y p q a b c d : ℕ) → 0 < p → 0 < q → 0 < c → 0 < d → x * c ≡ a * p → y * d ≡ b * q → ltb (x * q) (y * p) ≡ ltb (a * d) (b * c)
ltb-cross x y p q a b c d P Q C D u v =
    ltb_iff (x * q) (y * p) (a * d) (b * c)
    (λ l. transfer b a d c y x q p Q P (sym v) (sym u) l)
    (λ l. transfer y x q p b a d c D C v u l)

-- and one of the two is above 0 where one of the other two is
some-cross : (x y p q a b c d : ℕ) → 0 < p → 0 < q → 0 < c → 0 < d → x * c ≡ a * p → y * d ≡ b * q → ltb 0 (x * q + y * p) ≡ ltb 0 (a * d + b * c)
some-cross x y p q a b c d P Q C D u v =
    let l : x * q * (c * d) ≡ a * d * (p * q) = simp (mul_assoc, mul_comm, mul_left_comm) (simp (mul_assoc, mul_comm, mul_left_comm) at (ap (λ (z : ℕ). z * (q * d)) u)) in
    let r : y * p * (c * d) ≡ b * c * (p * q) = simp (mul_assoc, mul_comm, mul_left_comm) (simp (mul_assoc, mul_comm, mul_left_comm) at (ap (λ (z : ℕ). z * (p * c)) v)) in
    let e : (x * q + y * p) * (c * d) ≡ (a * d + b * c) * (p * q) = add-mul (x * q) (y * p) (c * d) ∙ ap₂ ◌+◌ l r ∙ sym (add-mul (a * d) (b * c) (p * q)) in
    same_test (ltb 0 (x * q + y * p)) (ltb 0 (a * d + b * c))
    (λ t. lt→ltb 0 (a * d + b * c) (first_pos (a * d + b * c) (p * q) (subst (λ (z : ℕ). 0 < z) e (mul-pos (ltb→lt 0 (x * q + y * p) t) (mul-pos C D)))))
    (λ t. lt→ltb 0 (x * q + y * p) (first_pos (x * q + y * p) (c * d) (subst (λ (z : ℕ). 0 < z) (sym e) (mul-pos (ltb→lt 0 (a * d + b * c) t) (mul-pos P Q)))))

pub lt-values : (x y : Float) (s t : Bool) (a c b d : ℕ) → 0 < c → 0 < d → HasValue x s a c → HasValue y t b d → lt x y ≡ below s (a * d) t (b * c)
unfolding lt
lt-values nan y s t a c b d C D v w = absurd v
lt-values (inf u) y s t a c b d C D v w = absurd v
lt-values (fin u m e) nan s t a c b d C D v w = absurd w
lt-values (fin u m e) (inf r) s t a c b d C D v w = absurd w
lt-values (fin u m e) (fin r n g) s t a c b d C D v w =
    ap₂ (λ (i j : Bool). below i (m * up e * down g) j (n * up g * down e)) v.0 w.0 ∙ go s t
  where
    go : (i j : Bool) → below i (m * up e * down g) j (n * up g * down e) ≡ below i (a * d) j (b * c)
    go false false = ltb-cross (m * up e) (n * up g) (down e) (down g) a b c d (down_pos e) (down_pos g) C D v.1 w.1
    go false true = refl
    go true false = some-cross (m * up e) (n * up g) (down e) (down g) a b c d (down_pos e) (down_pos g) C D v.1 w.1
    go true true = ltb-cross (n * up g) (m * up e) (down g) (down e) b a d c (down_pos g) (down_pos e) D C w.1 v.1

-- ---- absolute value, and the larger of two that are not negative
absolute-keeps : (x : Float) (s : Bool) (n : ℕ) → HasValue x s n 1 → HasValue (absolute x) false n 1
absolute-keeps nan s n v = absurd v
absolute-keeps (inf t) s n v = absurd v
absolute-keeps (fin t m e) s n v = (refl, v.1)

pub absolute-value : {x : Float} {a : ℤ} → Whole x a → HasValue (absolute x) false (nat_abs a) 1
absolute-value {x} {a} X =
    let u = view x a X in
    subst (λ (n : ℕ). HasValue (absolute x) false n 1) (sym (nat_abs-signed u.sign u.size) ∙ ap nat_abs u.is) (absolute-keeps x u.sign u.size u.value)

pub larger-value : (x y : Float) (a b : ℕ) → HasValue x false a 1 → HasValue y false b 1 → HasValue (larger x y) false (max a b) 1
unfolding larger
larger-value x y a b v w =
    subst (λ (t : Bool). HasValue (cond t y x) false (max a b) 1)
    (sym (lt-values x y false false a 1 b 1 (zero-lt-suc 0) (zero-lt-suc 0) v w ∙ ap₂ ltb (mul-one a) (mul-one b)))
    (go (ltb a b) (ltb→lt a b) (nltb→le a b))
  where
    second : a < b → b ≡ max a b
    second h = omega arith

    first : b ≤ a → a ≡ max a b
    first h = omega arith

    go : (t : Bool) → (T t → a < b) → (T (not t) → b ≤ a) → HasValue (cond t y x) false (max a b) 1
    go true f g = subst (λ (n : ℕ). HasValue y false n 1) (second (f tt)) w
    go false f g = subst (λ (n : ℕ). HasValue x false n 1) (first (g tt)) v
