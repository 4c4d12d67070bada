-- Why refusal 8 of a gate need only test the final parts, dropped sums included, for a reader who
-- doubts it: a product that is infinite or a NaN does not become finite again in a sum, so the test
-- covers every product and sum that the gate computes. Assumes nothing.
use Rattle.std.specs.Prelude.{◌≡◌, refl, List, [], ◌∷◌, Bool, true, false, ◌&&◌, Float, None, Option, Some}
use Rattle.std.proofs.lemmas.Bool.{false≢true}
use Rattle.std.specs.Float.{nan, inf, fin, binary64}
use Rattle.std.specs.Float.Ieee.{add}
use Rattle.std.specs.Float.Ieee.Scale.{finite}
use Rattle.amplitudes.specs.declared.Complex.{Complex}
use Rattle.amplitudes.specs.declared.U4.{U4}
use Rattle.amplitudes.specs.Amplitudes.{times, plus, finite_c}
use Rattle.amplitudes.specs.Pairs.{accumulated, exceeds}
use Rattle.gates.specs.Gate.{new_at, finite_new}
use Rattle.statevector.specs.Tests.{all}

-- the factors that take x (clear) and y (set) to the key with bit b
abbrev pub from_clear : U4 → Bool → Complex
from_clear g false = g.s0
from_clear g true = g.f0

abbrev pub from_set : U4 → Bool → Complex
from_set g false = g.f1
from_set g true = g.s1

-- every product and sum that a gate computes there
abbrev pub computed : U4 → Bool → Option Complex → Option Complex → List Complex
computed g b None None = []
computed g b (Some x) None = times (from_clear g b) x ∷ []
computed g b None (Some y) = times (from_set g b) y ∷ []
computed g b (Some x) (Some y) =
    let c = times (from_clear g b) x in
    let d = times (from_set g b) y in
    c ∷ d ∷ plus c d ∷ []

-- a sum of floats is finite only where both operands are
finite-operands : (x y : Float) → finite (add binary64 x y) ≡ true → (finite x ≡ true) × (finite y ≡ true)
unfolding add
finite-operands nan y h = absurd (false≢true h)
finite-operands (inf s) nan h = absurd (false≢true h)
finite-operands (inf true) (inf true) h = absurd (false≢true h)
finite-operands (inf true) (inf false) h = absurd (false≢true h)
finite-operands (inf false) (inf true) h = absurd (false≢true h)
finite-operands (inf false) (inf false) h = absurd (false≢true h)
finite-operands (inf s) (fin t n d) h = absurd (false≢true h)
finite-operands (fin s m e) nan h = absurd (false≢true h)
finite-operands (fin s m e) (inf t) h = absurd (false≢true h)
finite-operands (fin s m e) (fin t n d) h = (refl, refl)

parts : (a b : Bool) → a && b ≡ true → (a ≡ true) × (b ≡ true)
parts true b h = (refl, h)
parts false b h = absurd (false≢true h)

joined : (a b : Bool) → a ≡ true → b ≡ true → a && b ≡ true
joined true b h k = k
joined false b h k = h

pub finite-sum : (a b : Complex) → finite_c (plus a b) ≡ true
    → (finite_c a ≡ true) × (finite_c b ≡ true)
unfolding plus add
finite-sum a b h =
    let p = parts (finite (add binary64 a.re b.re)) (finite (add binary64 a.im b.im)) h in
    let r = finite-operands a.re b.re p.0 in
    let i = finite-operands a.im b.im p.1 in
    (joined (finite a.re) (finite a.im) r.0 i.0, joined (finite b.re) (finite b.im) r.1 i.1)

one : (p : Bool) → p ≡ p && true
one true = refl
one false = refl

three : (p q r : Bool) → (r ≡ true → (p ≡ true) × (q ≡ true)) → r ≡ p && (q && (r && true))
three true true true h = refl
three true true false h = refl
three true false true h = absurd (false≢true (h refl).1)
three true false false h = refl
three false q true h = absurd (false≢true (h refl).0)
three false q false h = refl

summed : (a c : Complex) → finite_c (plus a c) ≡ all finite_c (a ∷ c ∷ plus a c ∷ [])
summed a c = three (finite_c a) (finite_c c) (finite_c (plus a c)) (finite-sum a c)

-- the test of the final part is the test of all that was computed for it
pub covers-all : (g : U4) (b : Bool) (x y : Option Complex)
    → finite_new (new_at g b x y) ≡ all finite_c (computed g b x y)
unfolding accumulated exceeds plus times add
covers-all g b None None = refl
covers-all g false (Some x) None = one (finite_c (times g.s0 x))
covers-all g true (Some x) None = one (finite_c (times g.f0 x))
covers-all g false None (Some y) = one (finite_c (times g.f1 y))
covers-all g true None (Some y) = one (finite_c (times g.s1 y))
covers-all g false (Some x) (Some y) = summed (times g.s0 x) (times g.f1 y)
covers-all g true (Some x) (Some y) = summed (times g.f0 x) (times g.s1 y)
