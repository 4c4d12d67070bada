-- `keys::put_index` meets its contract. The invariant: the words before k are the key's. Assumes
-- nothing.
use mathlib.Core.Path.{◌≡◌, sym, ◌∙◌, subst}
use mathlib.Core.List.{List}
use Prim.Native.Nat.{ℕ, ◌+◌, ◌<◌, ◌≤◌}
use native.Mathlib.Omega.{arith}
use lib.ListN.{length, get_or, set, length-set}
use lib.Seq.{ext_get_or, get_or-set_same}
use Rattle.std.proofs.lemmas.List.Edits.{fill_by_more}
use Rattle.keys.specs.Keys.{index_key}
use Rattle.keys.specs.Laws.{length-index, index-first, index-other}
use Rattle.keys.proofs.put_index.Invariants.{Begins}
use Rattle.keys.proofs.put_index.Goals as goal

begins : (key : List ℕ) (index : ℕ) → 0 < length key → Begins (length key) index (set key 0 index) 1
begins key index h j l =
    let e : j ≡ 0 = omega arith in
    rw e (get_or-set_same key 0 index 0 h ∙ sym (index-first (length key) index h))

-- a zero more
more : (n index : ℕ) (key : List ℕ) (k : ℕ) → 0 < k → k < n → length key ≡ n → Begins n index key k → Begins n index (set key k 0) (k + 1)
more n index key k z h e b =
    subst (λ (v : ℕ). (j : ℕ) → j < k + 1 → get_or (set key k v) j 0 ≡ get_or (index_key n index) j 0) (index-other n index k z)
    (fill_by_more (λ (j : ℕ). get_or (index_key n index) j 0) key k 0 (omega arith) b)

-- and all of them
whole : (n index : ℕ) (key : List ℕ) (m : ℕ) → n ≤ m → length key ≡ n → Begins n index key m → key ≡ index_key n index
whole n index key m h e b = ext_get_or 0 key (index_key n index) (e ∙ sym (length-index n index)) (λ j l. b j (omega arith))

pub returns-then-key-eq1 : goal.returns-then-key-eq1
returns-then-key-eq1 c =
    let a = c.args in
    let n = length-set a.key.now 0 a.index in
    let one = c.if-key-eq1.true in
    whole (length a.key.now) a.index _ 1 (omega arith) n (begins a.key.now a.index c.requires)

pub loop-k-init : goal.loop-k-init
loop-k-init c =
    let a = c.args in
    let n = length-set a.key.now 0 a.index in
    more (length a.key.now) a.index _ 1 (omega arith) (let e = c.if-key-eq1.false in omega (arith, c.requires)) n (begins a.key.now a.index c.requires)

pub loop-k-preserved : goal.loop-k-preserved
loop-k-preserved c =
    let a = c.args in
    let n = length-set a.key.now 0 a.index in
    let m = length-set (set a.key.now 0 a.index) 1 0 in
    let l = c.loop-k.auto.key in
    more (length a.key.now) a.index c.loop-k.key c.loop-k.k (omega arith) (omega (arith, c.loop-k-test.true)) (omega arith) c.loop-k.invariant

pub returns : goal.returns
returns c =
    let a = c.args in
    let n = length-set a.key.now 0 a.index in
    let m = length-set (set a.key.now 0 a.index) 1 0 in
    let l = c.loop-k.auto.key in
    whole (length a.key.now) a.index c.loop-k.key c.loop-k.k (omega (arith, c.loop-k-test.false)) (omega arith) c.loop-k.invariant
