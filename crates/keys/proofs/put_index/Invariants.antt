use Prim.Native.Nat.{ℕ, ◌<◌}
use mathlib.Core.Path.{◌≡◌}
use mathlib.Core.List.{List}
use lib.ListN.{length, get_or}
use Rattle.keys.specs.Keys.{index_key}
use Rattle.keys.proofs.put_index.Given as goal

-- the first m words are those of the key of n words
abbrev pub Begins : ℕ → ℕ → List ℕ → ℕ → Type 0
Begins n index key m = (j : ℕ) → j < m → get_or key j 0 ≡ get_or (index_key n index) j 0

abbrev pub invariant-loop-k : goal.invariant-loop-k
invariant-loop-k l = Begins (length l.fn.key) l.index l.key l.k
