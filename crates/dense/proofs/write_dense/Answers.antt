-- `dense::write_dense` meets its contract. Assumes nothing.
use Rattle.statevector.specs.declared.Refusal.{Refusal}
use Rattle.statevector.specs.declared.State.{State}
use Rattle.std.specs.Prelude.{Err, None, Ok, Result}
use Prim.Native.Nat.{ℕ, ◌+◌, ◌/◌, ◌<◌, ◌≤◌}
use mathlib.Core.Path.{◌≡◌, sym, ap, ◌∙◌, subst}
use mathlib.Core.List.{List, []}
use borrow.Author.Tests.{lt-ltb, le-ltb}
use lib.ListN.{length}
use lib.Seq.{sets}
use Rattle.merge.specs.Records.{flat}
use Rattle.merge.specs.Laws.{capacity-is}
use Rattle.statevector.specs.declared.Refusal.TheVariants as no
use Rattle.statevector.specs.declared.Side.{Side}
use Rattle.dense.specs.Dense.{dense_from}
use Rattle.dense.specs.Passes.{dense_over}
use Rattle.statevector.specs.Endings.{FrontEnding}
use Rattle.statevector.specs.Refusals.{first}
use Rattle.dense.proofs.write_dense.Goals as goal

module _ (n : ℕ) (ws : List ℕ) (mark : Side) (store back : List ℕ) (count : ℕ) (e : count ≡ length (dense_from n 0 ws)) where
  -- the records exceed the store
  full : length store / (n + 2) < count → dense_over n ws mark store back ≡ record { answer = Err no.Full; front = store; back = back }
  unfolding dense_over first
  full h = rw (capacity-is n store, ← e, lt-ltb _ _ h)

  -- or are laid over it
  laid : count ≤ length store / (n + 2) → dense_over n ws mark store back
      ≡ record { answer = Ok (record { width = n; front = mark; n0 = count; n1 = 0; tag = None }); front = sets store 0 (flat (dense_from n 0 ws)); back = back }
  unfolding dense_over first
  laid h = rw (capacity-is n store, e, le-ltb _ _ (subst (λ (k : ℕ). k ≤ length store / (n + 2)) e h))

pub returns-then-store-width-clause-value : goal.returns-then-store-width-clause-value
returns-then-store-width-clause-value c =
    let a = c.args in
    let f = full a.width a.words.now a.mark a.store.now [] a.count c.requires.count_value c.if-store-width.true in
    sym (ap (λ (l : FrontEnding (Result State Refusal)). l.answer) f)

pub returns-then-store-width-clause-store_after : goal.returns-then-store-width-clause-store_after
returns-then-store-width-clause-store_after c =
    let a = c.args in
    let f = full a.width a.words.now a.mark a.store.now [] a.count c.requires.count_value c.if-store-width.true in
    sym (ap (λ (l : FrontEnding (Result State Refusal)). l.front) f)

pub returns-clause-value : goal.returns-clause-value
returns-clause-value c =
    let a = c.args in
    let f = laid a.width a.words.now a.mark a.store.now [] a.count c.requires.count_value c.if-store-width.false in
    sym (ap (λ (l : FrontEnding (Result State Refusal)). l.answer) f)

pub returns-clause-store_after : goal.returns-clause-store_after
returns-clause-store_after c =
    let a = c.args in
    let f = laid a.width a.words.now a.mark a.store.now [] a.count c.requires.count_value c.if-store-width.false in
    c.write_wanted.ensures ∙ sym (ap (λ (l : FrontEnding (Result State Refusal)). l.front) f)
