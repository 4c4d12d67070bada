-- `dense::put_wanted` meets its contract: a key, and the two patterns after it. Assumes nothing.
use Prim.Native.Nat.{ℕ, ◌+◌, ◌*◌, ◌^◌, ◌<◌}
use mathlib.Core.Path.{◌≡◌, sym, subst}
use mathlib.Core.List.{List}
use mathlib.Core.Bool.{true}
use native.Mathlib.Omega.{arith}
use lib.Dec.{T}
use lib.ListN.{set}
use lib.Seq.{sets}
use Rattle.merge.specs.Laws.{and-true-l, and_true_r, pattern-back, entry-sets, length-index}
use Rattle.keys.specs.Keys.{index_key}
use Rattle.keys.specs.Laws.{index-back}
use Rattle.merge.specs.Records.{encode}
use Rattle.dense.specs.Dense.{dense_amplitude, finite_word}
use Rattle.dense.proofs.put_wanted.Goals as goal

-- finite patterns after a key are those of the amplitude
patterns-set : (d d' : List ℕ) (to n i re im : ℕ) → d' ≡ sets d to (index_key n i) → re < 2 ^ 64 → im < 2 ^ 64 → finite_word re ≡ true → finite_word im ≡ true
    → set (set d' (to + n) re) (to + n + 1) im ≡ sets d to (encode (record { key = index_key n i; amp = dense_amplitude re im }))
patterns-set d d' to n i re im h x y f g =
    entry-sets d d' (record { key = index_key n i; amp = dense_amplitude re im }) to n re im h (length-index n i) (sym (pattern-back re x (subst T (sym f) tt))) (sym (pattern-back im y (subst T (sym g) tt)))

pub returns : goal.returns
returns c =
    let a = c.args in
    patterns-set a.store.now _ (a.o * (a.n + 2)) a.n a.i a.re a.im (index-back a.store.now _ (a.o * (a.n + 2)) a.n a.i (omega (arith, c.requires.n_in_bounds)) c.put_index.ensures) c.ranges.re.fits c.ranges.im.fits
    (and-true-l (finite_word a.re) (finite_word a.im) c.requires.finite_value)
    (and_true_r (finite_word a.re) (finite_word a.im) c.requires.finite_value)
