-- New amplitudes of one pair, written into the store, and whether they are finite. For the proofs
-- of the functions that the passes call. Assumes nothing.
use Prim.Native.Nat.{ℕ, ◌+◌, ◌-◌, ◌≤◌}
use mathlib.Core.Path.{◌≡◌, ap, ap₂, ◌∙◌, subst}
use mathlib.Core.Bool.{Bool, true, false, ◌&&◌}
use mathlib.Core.List.{List, [], ◌∷◌}
use borrow.Rule.Slice.PartMut.{put_mid}
use lib.ListN.{length, take, drop}
use lib.Seq.{sets}
use Rattle.amplitudes.specs.declared.Applied.{Applied}
use Rattle.amplitudes.specs.declared.Complex.{Complex}
use Rattle.amplitudes.specs.declared.Combined as amplitudes
use Rattle.amplitudes.specs.declared.U4.{U4}
use Rattle.amplitudes.specs.Amplitudes.{finite_c}
use Rattle.amplitudes.specs.Pairs.{applied, combined}
use Rattle.merge.specs.declared.MergeEq.TheVariants.{Lhs, Rhs, Both}
use Rattle.merge.specs.Laws.{applied-is, tail-back, answer-lhs, answer-rhs, answer-both, pair_is}
use Rattle.merge.specs.Pairs.{Pair, lhs, rhs, both, answer_of}
use Rattle.gates.specs.Passes.{finite_of, unpaired_at, put_sum, new_in, pairs_finite}

-- ---- a sum that is kept, or not: put into a tail that was lent
pub tail-put : (k : Bool) (l p : List ℕ) (at i : ℕ) (r : List ℕ) → at ≤ length l → p ≡ put_sum k (take (length l - at) (drop at l)) i r → put_mid at (length l - at) l p ≡ put_sum k l (at + i) r
tail-put true l p at i r h e = tail-back l p at i r h e
tail-put false l p at i r h e = tail-back l p at i [] h e

-- ---- an entry without a partner

-- the product on side b of the two that were made
abbrev pub made_at : Bool → Bool → Applied → Complex
made_at false false p = p.stay
made_at false true p = p.flip
made_at true false p = p.flip
made_at true true p = p.stay

made-is : (g : U4) (set b : Bool) (a : Complex) (p : Applied) → p ≡ applied g set a → made_at set b p ≡ unpaired_at g set b a
made-is g false false a p e = ap (λ (p : Applied). p.stay) (e ∙ applied-is g false a)
made-is g false true a p e = ap (λ (p : Applied). p.flip) (e ∙ applied-is g false a)
made-is g true false a p e = ap (λ (p : Applied). p.flip) (e ∙ applied-is g true a)
made-is g true true a p e = ap (λ (p : Applied). p.stay) (e ∙ applied-is g true a)

-- t: what `set` was found to be, and c what was read
pub made-alone : (g : U4) (set t b : Bool) (a c : Complex) (p : Applied) → set ≡ t → a ≡ c → p ≡ applied g set a → made_at t b p ≡ unpaired_at g set b c
made-alone g set t b a c p f h e = subst (λ (t : Bool). made_at t b p ≡ unpaired_at g set b c) f (made-is g set b a p e ∙ ap (unpaired_at g set b) h)

-- one record in the store, and one in the tail that was lent
pub alone-put : (l m p : List ℕ) (at o0 o1 : ℕ) (x y r s : List ℕ) → at ≤ length m → m ≡ sets l o0 x → p ≡ sets (take (length m - at) (drop at m)) o1 y → x ≡ r → y ≡ s
    → put_mid at (length m - at) m p ≡ sets (sets l o0 r) (at + o1) s
alone-put l m p at o0 o1 x y r s h e k f j = tail-back m p at o1 y h k ∙ ap₂ (λ (l y : List ℕ). sets l (at + o1) y) (e ∙ ap (sets l o0) f) j

-- ---- the new amplitudes of a pair are finite

module _ (g : U4) (b : Bool) where
  pub lhs-finite : (x : Complex) (p : Applied) → p ≡ applied g false x → b ≡ (finite_c p.stay && finite_c p.flip) → b ≡ finite_of g (Lhs x)
  unfolding finite_of
  lhs-finite x p e h = h ∙ ap (λ (p : Applied). finite_c p.stay && finite_c p.flip) (e ∙ applied-is g false x)

  pub rhs-finite : (y : Complex) (p : Applied) → p ≡ applied g true y → b ≡ (finite_c p.flip && finite_c p.stay) → b ≡ finite_of g (Rhs y)
  unfolding finite_of
  rhs-finite y p e h = h ∙ ap (λ (p : Applied). finite_c p.flip && finite_c p.stay) (e ∙ applied-is g true y)

  pub both-finite : (x y : Complex) (p : amplitudes.Combined) → p ≡ combined g false x y → b ≡ (finite_c p.stay.sum && finite_c p.flip.sum) → b ≡ finite_of g (Both x y)
  unfolding finite_of
  both-finite x y p e h = h ∙ ap (λ (p : amplitudes.Combined). finite_c p.stay.sum && finite_c p.flip.sum) (e ∙ pair_is g false x y)

-- those of the first pair, and of those after it
pub first-finite : (n : ℕ) (g : U4) (p : Pair) (ps : List Pair) → pairs_finite n g (p ∷ ps) ≡ (finite_of g (answer_of n (p ∷ [])) && pairs_finite n g ps)
unfolding pairs_finite new_in finite_of
first-finite n g (lhs x) ps = rw (answer-lhs n x [])
first-finite n g (rhs y) ps = rw (answer-rhs n y [])
first-finite n g (both x y) ps = rw (answer-both n x y [])
