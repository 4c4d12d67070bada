-- `dense::write_wanted` meets its contract. The invariant: the records that are left, laid from
-- here on, give the store that all of them give. Assumes nothing.
use Prim.Native.Nat.{ℕ, ◌+◌, ◌*◌, ◌<◌}
use mathlib.Core.Path.{◌≡◌, sym, ap, ap₂, subst, ◌∙◌}
use mathlib.Core.Bool.{true, ◌&&◌}
use mathlib.Core.List.{[]}
use native.Mathlib.Omega.{arith}
use lib.ListN.{length, get_or}
use lib.Seq.{sets}
use Rattle.merge.specs.Records.{encode, flat}
use Rattle.keys.specs.Keys.{index_key}
use Rattle.dense.specs.Dense.{dense_amplitude, dense_from, finite_word, wanted}
use Rattle.dense.proofs.Pairwise.{first_word, second_word, pair_at, all_here, Writing, write-room, write-wanted, write-small, write-all}
use Rattle.dense.proofs.write_wanted.Goals.{After-is_wanted, In-loop-i, else-is_wanted, then-is_wanted}
use Rattle.dense.proofs.write_wanted.Goals as goal

-- the words of the turn's pair
pair : (c : In-loop-i) → let i = c.loop-i.i in let ws = c.args.words.now in let p = get_or c.as_chunks.result.0.now i [] in
    (2 * i + 1 < length ws) × (get_or p 0 0 ≡ first_word ws i) × (get_or p 1 0 ≡ second_word ws i)
pair c =
    let i = c.loop-i.i in
    pair_at c.args.words.now _ i c.as_chunks.ensures.front (omega (arith, c.loop-i-test.true, c.as_chunks.ensures.front_len))

-- both are finite
finite-pair : (c : In-loop-i) → let p = get_or c.as_chunks.result.0.now c.loop-i.i [] in (finite_word (get_or p 0 0) && finite_word (get_or p 1 0)) ≡ true
finite-pair c =
    let i = c.loop-i.i in
    let ws = c.args.words.now in
    let p = pair c in
    ap₂ (λ (x y : ℕ). finite_word x && finite_word y) p.1 p.2
    ∙ ap₂ ◌&&◌ (all_here finite_word ws (2 * i) (omega (arith, p.0)) c.requires.words_value) (all_here finite_word ws (2 * i + 1) p.0 c.requires.words_value)

pub amplitude-requires : goal.amplitude-requires
amplitude-requires c =
    finite-pair (goal.at.amplitude-requires c).In-loop-i

pub put_wanted-requires-clause-finite_value : goal.put_wanted-requires-clause-finite_value
put_wanted-requires-clause-finite_value c =
    finite-pair (goal.at.put_wanted-requires-clause-finite_value c).In-loop-i

-- whether the pair is wanted
wants : (c : After-is_wanted) (p : let i = c.loop-i.i in let ws = c.args.words.now in let p = get_or c.as_chunks.result.0.now i [] in
    (2 * i + 1 < length ws) × (get_or p 0 0 ≡ first_word ws i) × (get_or p 1 0 ≡ second_word ws i))
    → c.is_wanted.result ≡ wanted (dense_amplitude (first_word c.args.words.now c.loop-i.i) (second_word c.args.words.now c.loop-i.i))
wants c p = c.is_wanted.ensures ∙ ap wanted (c.amplitude.ensures ∙ ap₂ dense_amplitude p.1 p.2)

pub put_wanted-requires-clause-n_in_bounds : goal.put_wanted-requires-clause-n_in_bounds
put_wanted-requires-clause-n_in_bounds c =
    let g = goal.at.put_wanted-requires-clause-n_in_bounds c in
    let p = pair g.In-loop-i in
    write-room _ _ _ _ _ _ _ c.loop-i.invariant.1 p.0 (sym (wants g.After-is_wanted p) ∙ c.if-is_wanted.true) c.requires.n_in_bounds

pub loop-i-preserved : goal.loop-i-preserved
loop-i-preserved c =
    let a = c.args in
    let l = c.loop-i in
    let g = goal.at.loop-i-preserved c in
    let p = pair g.In-loop-i in
    let e = wants g.After-is_wanted p in
    let final = sets a.store.now 0 (flat (dense_from a.n 0 a.words.now)) in
    let W = Writing a.n a.words.now final (length a.store.now) (l.i + 1) (l.o + 1) in
    let put = ap₂ (λ (x y : ℕ). sets l.store (l.o * (a.n + 2)) (encode (record { key = index_key a.n l.i; amp = dense_amplitude x y }))) p.1 p.2 in
    elim c.if-is_wanted.branch [
      | then-is_wanted w ↦ (omega arith, rw (w.store-is, w.o-is) (subst W (sym (w.put_wanted.ensures ∙ put)) (write-wanted _ _ _ _ _ _ _ l.invariant.1 p.0 (sym e ∙ w.if-is_wanted.true))))
      | else-is_wanted w ↦ (omega arith, rw (w.store-is, w.o-is) (write-small _ _ _ _ _ _ _ l.invariant.1 p.0 (sym e ∙ w.if-is_wanted.false)))
    ]

pub returns : goal.returns
returns c =
    write-all _ _ _ _ _ _ _ c.loop-i.invariant.1 (omega (arith, c.loop-i-test.false, c.as_chunks.ensures.front_len))
