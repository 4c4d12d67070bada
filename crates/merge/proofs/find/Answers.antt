-- `merge::find` meets its contract. The invariant: the key's place among the records lo .. hi,
-- which rise, is its place among all. Assumes nothing.
use Rattle.std.specs.declared.cmp.Ordering.{Ordering}
use Rattle.std.specs.declared.cmp.Ordering.TheVariants.{Less, Equal, Greater}
use Prim.Native.Nat.{ℕ, ◌+◌, ◌-◌, ◌/◌}
use mathlib.Core.Path.{◌≡◌, sym, ap, ap₂, ◌∙◌}
use mathlib.Core.List.{List}
use native.Mathlib.Omega.{arith}
use Rattle.keys.specs.Keys.{order}
use Rattle.merge.specs.Records.{record_at, key_of}
use Rattle.merge.specs.Laws.{record-fits}
use Rattle.merge.proofs.Searching.{search-end, search-left, search-right, search-here}
use Rattle.merge.proofs.find.Goals.{After-compare}
use Rattle.merge.proofs.find.Goals as goal

-- the index in the middle
abbrev mid : ℕ → ℕ → ℕ
mid lo hi = lo + (hi - lo) / 2

-- what the comparison says of its key
compared : (c : After-compare) (o : Ordering) → c.compare.result.order ≡ o
    → let a = c.args in order (key_of a.n (record_at a.n a.ws.now (mid c.loop-lo.lo c.loop-lo.hi))) a.key.now ≡ o
compared c o e =
    let a = c.args in
    sym (c.compare.ensures.order_value ∙ ap (λ (k : List ℕ). order k a.key.now) (c.key.ensures ∙ ap₂ key_of c.nth.ensures.n_value c.nth.ensures.words_value)) ∙ e

pub nth-requires : goal.nth-requires
nth-requires c =
    let a = c.args in
    let h = c.loop-lo-test.true in
    record-fits a.n (mid c.loop-lo.lo c.loop-lo.hi) a.to a.ws.now (omega (arith, c.loop-lo.invariant.1)) c.requires.from_le_to.1

pub loop-lo-preserved-in-Less : goal.loop-lo-preserved-in-Less
loop-lo-preserved-in-Less c =
    (omega arith, c.loop-lo.invariant.1, search-right _ _ _ _ _ _ c.loop-lo.invariant.2 (mid c.loop-lo.lo c.loop-lo.hi) (omega arith) (omega arith) (compared (goal.at.loop-lo-preserved-in-Less c).After-compare Less c.in-Less.is))

pub returns-in-Equal : goal.returns-in-Equal
returns-in-Equal c =
    search-here _ _ _ _ _ _ c.loop-lo.invariant.2 (mid c.loop-lo.lo c.loop-lo.hi) (omega arith) (omega arith) (compared (goal.at.returns-in-Equal c).After-compare Equal c.in-Equal.is)

pub loop-lo-preserved : goal.loop-lo-preserved
loop-lo-preserved c =
    (omega arith, omega arith, search-left _ _ _ _ _ _ c.loop-lo.invariant.2 (mid c.loop-lo.lo c.loop-lo.hi) (omega arith) (omega arith) (compared (goal.at.loop-lo-preserved c).After-compare Greater c.in-Greater.is))

pub returns : goal.returns
returns c =
    search-end _ _ _ _ _ _ c.loop-lo.invariant.2 c.loop-lo-test.false
