-- Identities of ℤ's ring, proved by computing. `ring a b ρ refl` proves that the expressions a and
-- b have one value at ρ, where their polynomials are the same. `linear a b ρ facts refl` proves it
-- where a is b with multiples of known equations added. No proof needs the order that the lists are
-- kept in. Assumes nothing.
use Rattle.std.specs.Prelude.{◌≡◌, refl, List, [], ◌∷◌, Bool, true, false, T, leb, ℤ, pos, negsuc, neg_ℤ, ◌+ℤ◌, ◌*ℤ◌, ◌-ℤ◌}
use Rattle.std.proofs.Common.{sym, ◌∙◌, ap, ap₂, eqb→eq}
use Prim.Native.Nat.{ℕ, zero, suc, compare, Ordering}
use Rattle.std.proofs.Math.Dec.{compare_is_eq}
use Rattle.std.proofs.Math.IntN.{+ℤ_assoc, +ℤ_idl, +ℤ_idr, +ℤ_invr, neg_ℤ-+ℤ, zero-*ℤ, *ℤ-zero}
use Rattle.algebra.specs.IntRing.{+ℤ-left-comm, *ℤ-left-comm, *ℤ-assoc, *ℤ-distl, *ℤ-distr, neg-*ℤ, *ℤ-idl, *ℤ-idr}
use Rattle.algebra.specs.Ring.{Ex, var, num, ◌⊕◌, ◌⊗◌, ◌⊖◌, neg, nth, val, Poly, nil, term, then, order, first, insert, join, front, place, merge, plus, scale, times, minus, normal}

-- ---- an expression's polynomial has its value
order-eq : (m n : List ℕ) → T (compare_is_eq (order m n)) → m ≡ n
order-eq [] [] t = refl
order-eq [] (j ∷ n) t = absurd t
order-eq (i ∷ m) [] t = absurd t
order-eq (i ∷ m) (j ∷ n) t = both (compare i j) (order m n) (eqb→eq i j) (order-eq m n) t
  where
    both : (o o' : Ordering) → (T (compare_is_eq o) → i ≡ j) → (T (compare_is_eq o') → m ≡ n) → T (compare_is_eq (then o o')) → i ∷ m ≡ j ∷ n
    both Ordering.lt o' f g t = absurd t
    both Ordering.eq o' f g t = ap₂ ◌∷◌ (f tt) (g t)
    both Ordering.gt o' f g t = absurd t

module _ (ρ : List ℤ) where
  abbrev mono : List ℕ → ℤ
  mono [] = pos 1
  mono (i ∷ m) = nth ρ i *ℤ mono m

  abbrev poly : Poly → ℤ
  poly nil = pos 0
  poly (term c m p) = c *ℤ mono m +ℤ poly p

  insert-val : (i : ℕ) (m : List ℕ) → mono (insert i m) ≡ nth ρ i *ℤ mono m
  insert-val i [] = refl
  insert-val i (j ∷ n) = either (leb i j) (insert i n) (insert-val i n)
    where
      either : (b : Bool) (r : List ℕ) → mono r ≡ nth ρ i *ℤ mono n → mono (first b i j n r) ≡ nth ρ i *ℤ (nth ρ j *ℤ mono n)
      either true r h = refl
      either false r h = ap (λ x. nth ρ j *ℤ x) h ∙ *ℤ-left-comm (nth ρ j) (nth ρ i) (mono n)

  join-val : (m n : List ℕ) → mono (join m n) ≡ mono m *ℤ mono n
  join-val [] n = sym (*ℤ-idl (mono n))
  join-val (i ∷ m) n = insert-val i (join m n) ∙ ap (λ x. nth ρ i *ℤ x) (join-val m n) ∙ sym (*ℤ-assoc (nth ρ i) (mono m) (mono n))

  front-val : (c : ℤ) (m : List ℕ) (p : Poly) → poly (front c m p) ≡ c *ℤ mono m +ℤ poly p
  front-val (pos zero) m p = sym (ap (λ x. x +ℤ poly p) (zero-*ℤ (mono m)) ∙ +ℤ_idl (poly p))
  front-val (pos (suc c)) m p = refl
  front-val (negsuc c) m p = refl

  -- f adds v
  module _ (c : ℤ) (m : List ℕ) (f : Poly → Poly) (v : ℤ) (adds : (q : Poly) → poly (f q) ≡ v +ℤ poly q) where
    merge-val : (q : Poly) → poly (merge c m f q) ≡ c *ℤ mono m +ℤ (v +ℤ poly q)
    merge-val nil = ap (λ x. c *ℤ mono m +ℤ x) (adds nil)
    merge-val (term d n q) = placed (order m n) (order-eq m n) (merge c m f q) (merge-val q)
      where
        placed : (o : Ordering) → (T (compare_is_eq o) → m ≡ n) → (r : Poly) → poly r ≡ c *ℤ mono m +ℤ (v +ℤ poly q) → poly (place o c m f d n q r) ≡ c *ℤ mono m +ℤ (v +ℤ (d *ℤ mono n +ℤ poly q))
        placed Ordering.lt e r h = ap (λ x. c *ℤ mono m +ℤ x) (adds (term d n q))
        placed Ordering.eq e r h =
            front-val (c +ℤ d) n (f q)
            ∙ ap₂ ◌+ℤ◌ (*ℤ-distr c d (mono n)) (adds q)
            ∙ +ℤ_assoc (c *ℤ mono n) (d *ℤ mono n) (v +ℤ poly q)
            ∙ ap₂ ◌+ℤ◌ (ap (λ x. c *ℤ mono x) (sym (e tt))) (+ℤ-left-comm (d *ℤ mono n) v (poly q))
        placed Ordering.gt e r h =
            ap (λ x. d *ℤ mono n +ℤ x) h
            ∙ +ℤ-left-comm (d *ℤ mono n) (c *ℤ mono m) (v +ℤ poly q)
            ∙ ap (λ x. c *ℤ mono m +ℤ x) (+ℤ-left-comm (d *ℤ mono n) v (poly q))

  plus_val : (p q : Poly) → poly (plus p q) ≡ poly p +ℤ poly q
  plus_val nil q = sym (+ℤ_idl (poly q))
  plus_val (term c m p) q = merge-val c m (λ r. plus p r) (poly p) (λ r. plus_val p r) q ∙ sym (+ℤ_assoc (c *ℤ mono m) (poly p) (poly q))

  scale-val : (c : ℤ) (m : List ℕ) (q : Poly) → poly (scale c m q) ≡ (c *ℤ mono m) *ℤ poly q
  scale-val c m nil = sym (*ℤ-zero (c *ℤ mono m))
  scale-val c m (term d n q) = ap₂ ◌+ℤ◌ product (scale-val c m q) ∙ sym (*ℤ-distl (c *ℤ mono m) (d *ℤ mono n) (poly q))
    where
      product : (c *ℤ d) *ℤ mono (join m n) ≡ (c *ℤ mono m) *ℤ (d *ℤ mono n)
      product =
          ap (λ x. (c *ℤ d) *ℤ x) (join-val m n)
          ∙ *ℤ-assoc c d (mono m *ℤ mono n)
          ∙ ap (λ x. c *ℤ x) (*ℤ-left-comm d (mono m) (mono n))
          ∙ sym (*ℤ-assoc c (mono m) (d *ℤ mono n))

  times-val : (p q : Poly) → poly (times p q) ≡ poly p *ℤ poly q
  times-val nil q = sym (zero-*ℤ (poly q))
  times-val (term c m p) q = plus_val (scale c m q) (times p q) ∙ ap₂ ◌+ℤ◌ (scale-val c m q) (times-val p q) ∙ sym (*ℤ-distr (c *ℤ mono m) (poly p) (poly q))

  minus_val : (p : Poly) → poly (minus p) ≡ neg_ℤ (poly p)
  minus_val nil = refl
  minus_val (term c m p) = ap₂ ◌+ℤ◌ (neg-*ℤ c (mono m)) (minus_val p) ∙ sym (neg_ℤ-+ℤ (c *ℤ mono m) (poly p))

  sound : (e : Ex) → val e ρ ≡ poly (normal e)
  sound (var i) = sym (+ℤ_idr (pos 1 *ℤ (nth ρ i *ℤ pos 1)) ∙ *ℤ-idl (nth ρ i *ℤ pos 1) ∙ *ℤ-idr (nth ρ i))
  sound (num c) = sym (front-val c [] nil ∙ +ℤ_idr (c *ℤ pos 1) ∙ *ℤ-idr c)
  sound (a ⊕ b) = ap₂ ◌+ℤ◌ (sound a) (sound b) ∙ sym (plus_val (normal a) (normal b))
  sound (a ⊗ b) = ap₂ ◌*ℤ◌ (sound a) (sound b) ∙ sym (times-val (normal a) (normal b))
  sound (neg a) = ap neg_ℤ (sound a) ∙ sym (minus_val (normal a))

-- ---- what a user calls
pub ring : (a b : Ex) (ρ : List ℤ) → normal a ≡ normal b → val a ρ ≡ val b ρ
ring a b ρ h = sound ρ a ∙ ap (poly ρ) h ∙ sym (sound ρ b)

-- a known equation, and the factor that it is taken with
pub record Fact (ρ : List ℤ) : Type 0 where
  pub factor : Ex
  pub left : Ex
  pub right : Ex
  pub holds : val left ρ ≡ val right ρ

-- an equation with its factor
abbrev pub fact : {ρ : List ℤ} (factor left right : Ex) → val left ρ ≡ val right ρ → Fact ρ
fact c l r h = record { factor = c; left = l; right = r; holds = h }

-- the sum of each fact's factor times the difference of its sides: 0
abbrev pub multiples : {ρ : List ℤ} → List (Fact ρ) → Ex
multiples [] = num (pos 0)
multiples (f ∷ fs) = f.factor ⊗ (f.left ⊖ f.right) ⊕ multiples fs

multiples-zero : {ρ : List ℤ} (fs : List (Fact ρ)) → val (multiples fs) ρ ≡ pos 0
multiples-zero [] = refl
multiples-zero {ρ} (f ∷ fs) = ap₂ ◌+ℤ◌ (ap (λ x. c *ℤ (x -ℤ r)) f.holds ∙ ap (λ x. c *ℤ x) (+ℤ_invr r) ∙ *ℤ-zero c) (multiples-zero fs)
  where
    c : ℤ
    c = val f.factor ρ

    r : ℤ
    r = val f.right ρ

-- the polynomial of a is that of b with each fact's factor times the difference of its sides added
pub linear : (a b : Ex) (ρ : List ℤ) (fs : List (Fact ρ)) → normal a ≡ normal (b ⊕ multiples fs) → val a ρ ≡ val b ρ
linear a b ρ fs h = ring a (b ⊕ multiples fs) ρ h ∙ ap (λ x. val b ρ +ℤ x) (multiples-zero fs) ∙ +ℤ_idr (val b ρ)
