-- The order of keys: widths, that it is total, what an answer of a comparison says, and equal keys.
-- For every crate above. Assumes nothing.
use Rattle.std.specs.declared.cmp.Ordering.{Ordering}
use Rattle.std.specs.declared.cmp.Ordering.TheVariants.{Less, Equal, Greater}
use Rattle.std.specs.Prelude.{◌≡◌, refl, ℕ, zero, suc, ◌<◌, List, [], ◌∷◌, Bool, true, false, ◌||◌, eqb, ltb, length, get_or, take}
use Rattle.std.proofs.Common.{sym, ap, ap₂, ◌∙◌, subst, le_antisymm, arith, rules, lt-ltb, le-ltb, eqb-true, ltb-true, ltb-false}
use Rattle.std.proofs.lemmas.Bool.{false≢true}
use Rattle.keys.specs.Keys.{listed, widths, among, by_word, order, Before, Says, is_equal, same}
use Rattle.keys.specs.Lists.{All, both_ways}

-- ---- widths

among-all : (P : ℕ → Type 0) (n : ℕ) (ws : List ℕ) → among n ws ≡ true → All P ws → P n
among-all P n [] e h = absurd (false≢true e)
among-all P n (w ∷ ws) e h = go (eqb n w) refl e (λ d. among-all P n ws d h.1)
  where
    go : (t : Bool) → eqb n w ≡ t → (t || among n ws) ≡ true → (among n ws ≡ true → P n) → P n
    go true d e r = subst P (sym (eqb-true n w d)) h.0
    go false d e r = r e

pub width-range : (n : ℕ) → listed n ≡ true → (0 < n) × (n < 63)
unfolding listed
width-range n e =
    among-all (λ w. (0 < w) × (w < 63)) n widths e (search rules)

-- ---- the order is total

abbrev pub reverse : Ordering → Ordering
reverse Less = Greater
reverse Equal = Equal
reverse Greater = Less

-- how two words stand to each other
data Stand (x y : ℕ) : Type 0 where
  below : x < y → ltb x y ≡ true → ltb y x ≡ false → Stand x y
  level : x ≡ y → ltb x y ≡ false → ltb y x ≡ false → Stand x y
  above : y < x → ltb x y ≡ false → ltb y x ≡ true → Stand x y

stand : (x y : ℕ) → Stand x y
stand x y = go (ltb x y) (ltb y x) refl refl
  where
    go : (s t : Bool) → ltb x y ≡ s → ltb y x ≡ t → Stand x y
    go true true d e = absurd (let h = ltb-true x y d in let l = ltb-true y x e in omega arith)
    go true false d e = below (ltb-true x y d) d e
    go false true d e = above (ltb-true y x e) d e
    go false false d e = level (le_antisymm (ltb-false y x e) (ltb-false x y d)) d e

pub order-refl : (a : List ℕ) → order a a ≡ Equal
unfolding order
order-refl [] = refl
order-refl (x ∷ a) = rw (le-ltb x x (omega arith)) (order-refl a)

pub order-reverse : (a b : List ℕ) → order b a ≡ reverse (order a b)
unfolding order
order-reverse [] [] = refl
order-reverse [] (y ∷ b) = refl
order-reverse (x ∷ a) [] = refl
order-reverse (x ∷ a) (y ∷ b) = go (stand x y) (order-reverse a b)
  where
    go : Stand x y → order b a ≡ reverse (order a b) → by_word (ltb y x) (ltb x y) (order b a) ≡ reverse (by_word (ltb x y) (ltb y x) (order a b))
    go (below h d e) r = rw (d, e)
    go (level h d e) r = rw (d, e) r
    go (above h d e) r = rw (d, e)

pub order-equal : (a b : List ℕ) → order a b ≡ Equal → a ≡ b
unfolding order
order-equal [] [] h = refl
order-equal [] (y ∷ b) h = cc
order-equal (x ∷ a) [] h = cc
order-equal (x ∷ a) (y ∷ b) h = go (stand x y) (order-equal a b) h
  where
    go : Stand x y → (order a b ≡ Equal → a ≡ b) → by_word (ltb x y) (ltb y x) (order a b) ≡ Equal → ◌≡◌ {A = List ℕ} (x ∷ a) (y ∷ b)
    go (below p d e) r h = let z : Less ≡ Equal = rw d at h in cc
    go (level p d e) r h = ap₂ (λ (w : ℕ) (k : List ℕ). w ∷ k) p (r (rw (d, e) at h))
    go (above p d e) r h = let z : Greater ≡ Equal = rw (d, e) at h in cc

pub order_trans : (a b c : List ℕ) → order a b ≡ Less → order b c ≡ Less → order a c ≡ Less
unfolding order
order_trans [] [] c h l = cc
order_trans [] (y ∷ b) [] h l = cc
order_trans [] (y ∷ b) (z ∷ c) h l = refl
order_trans (x ∷ a) [] c h l = cc
order_trans (x ∷ a) (y ∷ b) [] h l = cc
order_trans (x ∷ a) (y ∷ b) (z ∷ c) h l = go (stand x y) (stand y z) (order_trans a b c) h l
  where
    go : Stand x y → Stand y z → (order a b ≡ Less → order b c ≡ Less → order a c ≡ Less)
        → by_word (ltb x y) (ltb y x) (order a b) ≡ Less → by_word (ltb y z) (ltb z y) (order b c) ≡ Less → by_word (ltb x z) (ltb z x) (order a c) ≡ Less
    go (above p d e) s r h l = let f : Greater ≡ Less = rw (d, e) at h in cc
    go (below p d e) (below q f g) r h l = rw (lt-ltb x z (omega arith))
    go (below p d e) (level q f g) r h l = rw (lt-ltb x z (omega arith))
    go (below p d e) (above q f g) r h l = let t : Greater ≡ Less = rw (f, g) at l in cc
    go (level p d e) (below q f g) r h l = rw (lt-ltb x z (omega arith))
    go (level p d e) (level q f g) r h l = rw (le-ltb x z (omega arith), le-ltb z x (omega arith)) (r (rw (d, e) at h) (rw (f, g) at l))
    go (level p d e) (above q f g) r h l = let t : Greater ≡ Less = rw (f, g) at l in cc

pub less-not-equal : (a b : List ℕ) → order a b ≡ Less → a ≡ b → ⊥
less-not-equal a b h e = let z : Less ≡ Equal = sym h ∙ ap (order a) (sym e) ∙ order-refl a in let f : ◌≡◌ {A = ℕ} 0 1 = cc in omega arith

pub less-greater : (a b : List ℕ) → order a b ≡ Less → order b a ≡ Greater
less-greater a b h = order-reverse a b ∙ ap reverse h

pub greater-less : (a b : List ℕ) → order a b ≡ Greater → order b a ≡ Less
greater-less a b h = order-reverse a b ∙ ap reverse h

-- keys that differ only in word 0 go by that number
pub order-first : (x y : ℕ) (a b : List ℕ) → x < y → order (x ∷ a) (y ∷ b) ≡ Less
unfolding order
order-first x y a b h = rw (lt-ltb x y h)

-- ---- what a comparison's answer says

before_more : (x y : ℕ) (a b : List ℕ) → x ≡ y → Before a b → Before (x ∷ a) (y ∷ b)
before_more x y a b e h =
    record {
      place = suc h.place;
      inside = (let l = h.inside in omega arith);
      prefix = ap₂ (λ (w : ℕ) (k : List ℕ). w ∷ k) e h.prefix;
      smaller = h.smaller;
    }

says-more : (o : Ordering) (x y : ℕ) (a b : List ℕ) → x ≡ y → Says o a b → Says o (x ∷ a) (y ∷ b)
says-more Less x y a b e h = before_more x y a b e h
says-more Equal x y a b e h = ap₂ (λ (w : ℕ) (k : List ℕ). w ∷ k) e h
says-more Greater x y a b e h = before_more y x b a (sym e) h

first-smaller : (x y : ℕ) (a b : List ℕ) → x < y → Before (x ∷ a) (y ∷ b)
first-smaller x y a b h = record { place = 0; inside = omega arith; prefix = refl; smaller = h }

-- the answer for two keys of one width is true
pub order-says : (a b : List ℕ) → length a ≡ length b → Says (order a b) a b
unfolding order
order-says [] [] l = refl
order-says [] (y ∷ b) l = absurd (omega arith)
order-says (x ∷ a) [] l = absurd (omega arith)
order-says (x ∷ a) (y ∷ b) l = go (stand x y) (order-says a b (omega arith))
  where
    go : Stand x y → Says (order a b) a b → Says (by_word (ltb x y) (ltb y x) (order a b)) (x ∷ a) (y ∷ b)
    go (below h d e) r = rw d (first-smaller x y a b h)
    go (level h d e) r = rw (d, e) (says-more (order a b) x y a b h r)
    go (above h d e) r = rw (d, e) (first-smaller y x b a h)

before-less : (a b : List ℕ) (p : ℕ) → p < length a → take p a ≡ take p b → get_or a p 0 < get_or b p 0 → order a b ≡ Less
unfolding order
before-less [] b p i s h = absurd (omega arith)
before-less (x ∷ a) [] zero i s h = absurd (omega arith)
before-less (x ∷ a) [] (suc p) i s h = absurd (omega arith)
before-less (x ∷ a) (y ∷ b) zero i s h = rw (lt-ltb x y h)
before-less (x ∷ a) (y ∷ b) (suc p) i s h =
    let e : x ≡ y = cc in
    let r : take p a ≡ take p b = cc in
    rw (le-ltb x y (omega arith), le-ltb y x (omega arith)) (before-less a b p (omega arith) r h)

-- and no other answer is
pub says-order : (o : Ordering) (a b : List ℕ) → Says o a b → order a b ≡ o
says-order Less a b h = before-less a b h.place h.inside h.prefix h.smaller
says-order Equal a b h = ap (order a) (sym h) ∙ order-refl a
says-order Greater a b h = less-greater b a (before-less b a h.place h.inside h.prefix h.smaller)

-- ---- equal keys

pub same-order : (a b : List ℕ) (o : Ordering) → order a b ≡ o → same a b ≡ is_equal o
unfolding same
same-order a b o e = ap is_equal e

pub same_refl : (k : List ℕ) → same k k ≡ true
unfolding same
same_refl k = ap is_equal (order-refl k)

pub same-is : (a b : List ℕ) → a ≡ b → same a b ≡ true
same-is a b e = subst (λ (x : List ℕ). same a x ≡ true) e (same_refl a)

pub same-eq : (a b : List ℕ) → same a b ≡ true → a ≡ b
unfolding same
same-eq a b e = go (order a b) refl e
  where
    go : (o : Ordering) → order a b ≡ o → is_equal o ≡ true → a ≡ b
    go Less c e = absurd (false≢true e)
    go Equal c e = order-equal a b c
    go Greater c e = absurd (false≢true e)

pub not_same : (a b : List ℕ) → (a ≡ b → ⊥) → same a b ≡ false
not_same a b f = go (same a b) refl
  where
    go : (t : Bool) → same a b ≡ t → t ≡ false
    go true e = absurd (f (same-eq a b e))
    go false e = refl

pub below-not-same : (a b : List ℕ) → order a b ≡ Less → same a b ≡ false
unfolding same
below-not-same a b e = ap is_equal e

pub same-iff : (a b c d : List ℕ) → (a ≡ b → c ≡ d) → (c ≡ d → a ≡ b) → same a b ≡ same c d
same-iff a b c d f g = both_ways (same a b) (same c d) (λ e. same-is c d (f (same-eq a b e))) (λ e. same-is a b (g (same-eq c d e)))
