-- What is read of a finite pattern is what is written, and what is read of any other is not finite
-- either. Assumes nothing.
use Rattle.std.specs.Prelude.{◌≡◌, refl, ℕ, ◌+◌, List, Bool, true, false, cond, ◌&&◌, Float, get_or}
use Rattle.std.proofs.Common.{sym, ap₂}
use Rattle.std.specs.Float.{inf, binary64}
use Rattle.std.specs.Float.Ieee.{of_bits}
use Rattle.std.specs.Float.Ieee.Scale.{finite}
use Rattle.amplitudes.specs.declared.Complex.{Complex}
use Rattle.amplitudes.specs.declared.U4.{U4}
use Rattle.amplitudes.specs.Amplitudes.{finite_c, finite_gate}
use Rattle.amplitudes.specs.Readings.{amplitude_at, written_gate, read_float, read_gate}

pub read-as-written : (w : ℕ) → finite (of_bits binary64 w) ≡ true → read_float w ≡ of_bits binary64 w
unfolding read_float
read-as-written w e = rw e

pub read-not-finite : (w : ℕ) → finite (of_bits binary64 w) ≡ false → inf false ≡ read_float w
unfolding read_float
read-not-finite w e = rw e

pub read-finite : (w : ℕ) → finite (read_float w) ≡ finite (of_bits binary64 w)
unfolding read_float
read-finite w = go (finite (of_bits binary64 w)) refl
  where
    go : (b : Bool) → finite (of_bits binary64 w) ≡ b → finite (cond b (of_bits binary64 w) (inf false)) ≡ finite (of_bits binary64 w)
    go true e = refl
    go false e = sym e

pub gate-finite : (ws : List ℕ) → finite_gate (read_gate ws) ≡ finite_gate (written_gate ws)
gate-finite ws = simp read-finite

both : (p q : Bool) → p && q ≡ true → (p ≡ true) × (q ≡ true)
both true q e = (refl, e)
both false q e = (e, let z : true ≡ false = sym e in (cc))

amplitude-same : (ws : List ℕ) (i : ℕ) → finite_c (amplitude_at (of_bits binary64) ws i) ≡ true → amplitude_at read_float ws i ≡ amplitude_at (of_bits binary64) ws i
amplitude-same ws i e =
    let re = get_or ws i 0 in
    let im = get_or ws (i + 1) 0 in
    let b = both (finite (of_bits binary64 re)) (finite (of_bits binary64 im)) e in
    ap₂ (λ (x y : Float). record { re = x; im = y }) (read-as-written re b.0) (read-as-written im b.1)

four : {a b c d a' b' c' d' : Complex} → a ≡ a' → b ≡ b' → c ≡ c' → d ≡ d' → ◌≡◌ {A = U4} (record { s0 = a; f0 = b; s1 = c; f1 = d }) (record { s0 = a'; f0 = b'; s1 = c'; f1 = d' })
four p q r s = cc

pub gate_same : (ws : List ℕ) → finite_gate (written_gate ws) ≡ true → read_gate ws ≡ written_gate ws
gate_same ws e =
    let halves = both (part 0 && part 2) (part 4 && part 6) e in
    let clear = both (part 0) (part 2) halves.0 in
    let set = both (part 4) (part 6) halves.1 in
    four (amplitude-same ws 0 clear.0) (amplitude-same ws 2 clear.1) (amplitude-same ws 4 set.0) (amplitude-same ws 6 set.1)
  where
    part : ℕ → Bool
    part i = finite_c (amplitude_at (of_bits binary64) ws i)
