-- Laws of words: a state's words read back, and what is written as a pattern is no NaN. Assumes
-- nothing.
use Rattle.std.specs.Prelude.{◌≡◌, refl, ℕ, List, ◌++◌, true, length, T, Float, None, Ok, Option, Some}
use Rattle.std.proofs.Common.{sym, subst, ap, ◌∙◌, arith, drop_of_length-le}
use mathlib.Core.List.{append-nil}
use Rattle.std.proofs.lemmas.List.Edits.{sets}
use Rattle.keys.specs.Lists.{and-true-l, and_true_r}
use Rattle.keys.specs.Laws.{sets-start}
use Rattle.std.specs.Float.Ieee.Scale.{finite}
use Rattle.amplitudes.proofs.Laws.{finite-no-nan}
use Rattle.amplitudes.specs.declared.Complex.{Complex}
use Rattle.state.specs.declared.Squares.{Squares}
use Rattle.statevector.specs.declared.Side.{Side}
use Rattle.statevector.specs.declared.Side.TheVariants.{Left, Right}
use Rattle.statevector.specs.declared.State.{State}
use Rattle.state.specs.Lookup.{lookup_call}
use Rattle.state.specs.Laws.{sums-no-nan, lookup-finite}
use Rattle.state.specs.Sums.{premeasure_call}
use Rattle.words.specs.NotNan.{NotNan, FoundNotNan, SumsNotNan}
use Rattle.words.specs.Words.{state_of, state_words, side_of, side_word, tag_of, tag_flag, tag_word}

-- ---- a state's words

side-back : (m : Side) → side_of (side_word m) ≡ m
side-back Left = refl
side-back Right = refl

tag_back : (t : Option ℕ) → tag_of (tag_flag t) (tag_word t) ≡ t
tag_back None = refl
tag_back (Some q) = refl

pub state-back : (s : State) → state_of (state_words s) ≡ s
unfolding state_of
state-back s = rw (side-back s.front, tag_back s.tag)

-- words over as many others are those words
pub sets-whole : (l a : List ℕ) → length l ≡ length a → sets l 0 a ≡ a
sets-whole l a e = sets-start a l (omega arith) ∙ ap (λ (x : List ℕ). a ++ x) (drop_of_length-le l {i = length a} (omega arith)) ∙ append-nil a

-- ---- what is written as a pattern is no NaN

number : (x : Float) → finite x ≡ true → NotNan x
number x e = finite-no-nan x (subst T (sym e) tt)

pub found-not-nan : (s : State) (key left right : List ℕ) (m : Option Complex) → lookup_call s key left right ≡ Ok m → FoundNotNan m
found-not-nan s key left right None e = tt
found-not-nan s key left right (Some a) e =
    let f = lookup-finite s key left right a e in
    (number a.re (and-true-l (finite a.re) (finite a.im) f), number a.im (and_true_r (finite a.re) (finite a.im) f))

pub sums-not-nan : (s : State) (q : ℕ) (left right : List ℕ) (x : Squares) → premeasure_call s q left right ≡ Ok x → SumsNotNan x
sums-not-nan s q left right x e = sums-no-nan s q left right x e
