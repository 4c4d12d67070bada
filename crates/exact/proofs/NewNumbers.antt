-- A gate's new amplitude is exact, for `OneGate`: with whole parts under the limits it reads as the
-- table's new numbers, and a sum that is dropped is 0. Assumes nothing.
use Rattle.std.specs.Prelude.{◌≡◌, refl, ℕ, ◌^◌, ◌≤◌, Bool, true, false, cond, None, Option, Some}
use Rattle.std.proofs.Common.{sym, ap, ap₂, ◌∙◌, subst, le_trans, lit≤}
use Rattle.algebra.specs.Gate.{Gauss, ◌·◌, ◌⊕◌, zero_g}
use Rattle.algebra.proofs.Laws.{times_zero, plus-zero, zero-plus}
use Rattle.amplitudes.specs.declared.Accumulated.{Accumulated}
use Rattle.amplitudes.specs.declared.Complex.{Complex}
use Rattle.amplitudes.specs.declared.U4.{U4}
use Rattle.amplitudes.specs.Amplitudes.{times, plus}
use Rattle.amplitudes.specs.Numbers.{gauss, gauss_gate, WholeC, Small, Stands, StandsWithin, nonzero}
use Rattle.amplitudes.specs.Pairs.{accumulated, is_kept}
use Rattle.amplitudes.proofs.Laws.{stands, stands-gauss, stands-whole, whole-within, product-exact, two-products-exact, verdict-exact, kept-judged, nonzero-false, accumulated-is}
use Rattle.gates.specs.Gate.{sum, new_at, pruned}
use Rattle.exact.specs.Table.{numbers_of, new_numbers, Admissible}

-- no amplitude, or one with whole parts up to 2^34 in size
abbrev pub Bounded : Option Complex → Type 0
Bounded None = Unit
Bounded (Some a) = StandsWithin (2 ^ 34) a (gauss a)

-- no amplitude, or one with whole parts
abbrev pub WholeM : Option Complex → Type 0
WholeM None = Unit
WholeM (Some a) = WholeC a

-- m reads as z, and is whole
pub record Reads (m : Option Complex) (z : Gauss) : Type 0 where
  pub value : numbers_of m ≡ z
  pub whole : WholeM m

-- a bound may be raised
pub wider : {a b : ℕ} (z : Gauss) → Small a z → a ≤ b → Small b z
wider z s l = (le_trans s.0 l, le_trans s.1 l)

reads-some : {a : Complex} {z : Gauss} → Stands a z → Reads (Some a) z
reads-some h = record { value = stands-gauss h; whole = stands-whole h }

module _ (c d : Complex) (C : StandsWithin 16 c (gauss c)) (D : StandsWithin 16 d (gauss d)) where
  -- a sum of two products: dropped exactly where it is 0
  sum-exact : (x y : Complex) → StandsWithin (2 ^ 34) x (gauss x) → StandsWithin (2 ^ 34) y (gauss y)
      → Reads (pruned (sum (accumulated (times c x) (times d y)))) (gauss c · gauss x ⊕ gauss d · gauss y)
  sum-exact x y X Y =
      let z = gauss c · gauss x ⊕ gauss d · gauss y in
      let s = plus (times c x) (times d y) in
      let v : is_kept (accumulated (times c x) (times d y)).verdict ≡ nonzero z = ap is_kept (verdict-exact C X D Y) ∙ kept-judged (nonzero z) in
      let is : (accumulated (times c x) (times d y)).sum ≡ s = ap (λ (a : Accumulated). a.sum) (accumulated-is (times c x) (times d y)) in
      subst (λ (t : Bool). Reads (cond t (Some (accumulated (times c x) (times d y)).sum) None) z) (sym v)
      (subst (λ (a : Complex). Reads (cond (nonzero z) (Some a) None) z) (sym is) (go (nonzero z) refl))
    where
      go : (t : Bool) → nonzero (gauss c · gauss x ⊕ gauss d · gauss y) ≡ t → Reads (cond t (Some (plus (times c x) (times d y))) None) (gauss c · gauss x ⊕ gauss d · gauss y)
      go true e = reads-some (stands (two-products-exact C X D Y))
      go false e = record { value = sym (nonzero-false (gauss c · gauss x ⊕ gauss d · gauss y) e); whole = tt }

  none-exact : Reads None (gauss c · zero_g ⊕ gauss d · zero_g)
  none-exact = record { value = sym (ap₂ ◌⊕◌ (times_zero (gauss c)) (times_zero (gauss d))); whole = tt }

  first-exact : (x : Complex) → StandsWithin (2 ^ 34) x (gauss x) → Reads (Some (times c x)) (gauss c · gauss x ⊕ gauss d · zero_g)
  first-exact x X =
      subst (Reads (Some (times c x))) (sym (ap (◌⊕◌ (gauss c · gauss x)) (times_zero (gauss d)) ∙ plus-zero (gauss c · gauss x))) (reads-some (stands (product-exact C X)))

  second-exact : (y : Complex) → StandsWithin (2 ^ 34) y (gauss y) → Reads (Some (times d y)) (gauss c · zero_g ⊕ gauss d · gauss y)
  second-exact y Y =
      subst (Reads (Some (times d y))) (sym (ap (λ (z : Gauss). z ⊕ gauss d · gauss y) (times_zero (gauss c)) ∙ zero-plus (gauss d · gauss y))) (reads-some (stands (product-exact D Y)))

module _ (g : U4) (admissible : Admissible g) where
  s0 : StandsWithin 16 g.s0 (gauss g.s0)
  s0 = whole-within 16 g.s0 admissible.s0.0 (wider (gauss g.s0) admissible.s0.1 (lit≤ tt))

  f0 : StandsWithin 16 g.f0 (gauss g.f0)
  f0 = whole-within 16 g.f0 admissible.f0.0 (wider (gauss g.f0) admissible.f0.1 (lit≤ tt))

  s1 : StandsWithin 16 g.s1 (gauss g.s1)
  s1 = whole-within 16 g.s1 admissible.s1.0 (wider (gauss g.s1) admissible.s1.1 (lit≤ tt))

  f1 : StandsWithin 16 g.f1 (gauss g.f1)
  f1 = whole-within 16 g.f1 admissible.f1.0 (wider (gauss g.f1) admissible.f1.1 (lit≤ tt))

  pub new-exact : (b : Bool) (x y : Option Complex) → Bounded x → Bounded y → Reads (pruned (new_at g b x y)) (new_numbers (gauss_gate g) b (numbers_of x) (numbers_of y))
  new-exact false None None X Y = none-exact g.s0 g.f1 s0 f1
  new-exact true None None X Y = none-exact g.f0 g.s1 f0 s1
  new-exact false (Some x) None X Y = first-exact g.s0 g.f1 s0 f1 x X
  new-exact true (Some x) None X Y = first-exact g.f0 g.s1 f0 s1 x X
  new-exact false None (Some y) X Y = second-exact g.s0 g.f1 s0 f1 y Y
  new-exact true None (Some y) X Y = second-exact g.f0 g.s1 f0 s1 y Y
  new-exact false (Some x) (Some y) X Y = sum-exact g.s0 g.f1 s0 f1 x y X Y
  new-exact true (Some x) (Some y) X Y = sum-exact g.f0 g.s1 f0 s1 x y X Y
