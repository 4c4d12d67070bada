-- `merge::repartition` meets its contract: rising parts, merged, are all their records sorted by
-- key. Assumes nothing.
use Rattle.std.specs.Prelude.{None}
use Prim.Native.Nat.{ℕ, ◌+◌, ◌-◌, ◌*◌, ◌≤◌}
use mathlib.Core.Path.{◌≡◌, refl, sym, ap, ap₂, ◌∙◌, subst}
use mathlib.Core.List.{List, [], ◌++◌}
use mathlib.Core.Bool.{true, false}
use native.Mathlib.Nat.{add-mul}
use native.Mathlib.Omega.{arith}
use lib.ListN.{length}
use lib.Seq.{sets}
use Rattle.merge.specs.Merging.{merged}
use Rattle.merge.specs.Records.{part, records, flat}
use Rattle.merge.specs.Laws.{part_none, part-append, part_length, merged-sorted, repartition-length, repartition-count}
use Rattle.merge.specs.Sorting.{before, sort_key, only, side, sorted, repartitioned, parted_words}
use Rattle.merge.proofs.repartition.Goals.{After-of-2}
use Rattle.merge.proofs.repartition.Goals as goal

-- the sizes that the count gives: of the records in order, `ones` have the bit set, and the others
-- are those that are left
record Sizes (n q : ℕ) (rs : List (List ℕ)) (all ones room : ℕ) : Type 0 where
  within : ones ≤ all
  clear : all - ones ≡ length (side n q false rs)
  fits : (all - ones) * (n + 2) + length (side n q true rs) * (n + 2) ≤ room

sizes : (n q : ℕ) (ws : List ℕ) (all ones room : ℕ) (rs : List (List ℕ)) → rs ≡ sorted (sort_key n None) (part n ws 0 all)
    → ones ≡ length (side n q true (part n ws 0 all)) → all * (n + 2) ≤ room → Sizes n q rs all ones room
unfolding repartitioned
sizes n q ws all ones room rs m e h =
    let C = length (side n q false rs) in
    let S = length (side n q true rs) in
    let s : C + S ≡ all =
    ap (λ (l : List (List ℕ)). length (side n q false l) + length (side n q true l)) m ∙ repartition-length n q (part n ws 0 all) ∙ part_length n ws 0 all ∙ omega arith in
    let o : S ≡ ones = ap (λ (l : List (List ℕ)). length (side n q true l)) m ∙ repartition-count n q true (part n ws 0 all) ∙ sym e in
    let c : all - ones ≡ C = omega arith in
    record { within = omega arith; clear = c; fits = rw c (subst (λ (k : ℕ). k ≤ room) (ap (λ (k : ℕ). k * (n + 2)) (sym s) ∙ add-mul C S (n + 2)) h) }

-- the records of both parts, merged, are all of them sorted
abbrev left : After-of-2 → List (List ℕ)
left c = let a = c.args in merged (before (sort_key a.n None)) (records a.n c.of.result.words.now) (records a.n c.of-2.result.words.now)

all-sorted : (c : After-of-2) → let a = c.args in left c ≡ sorted (sort_key a.n None) (part a.n a.front.now 0 (a.n0 + a.n1))
all-sorted c =
    let a = c.args in
    let ws = a.front.now in
    ap₂ (merged (before (sort_key a.n None))) (ap (λ (m : ℕ). records m c.of.result.words.now) (sym c.of.ensures.n_value) ∙ c.of.ensures.part_value) (ap (λ (m : ℕ). records m c.of-2.result.words.now) (sym c.of-2.ensures.n_value) ∙ c.of-2.ensures.part_value)
    ∙ merged-sorted (sort_key a.n None) (part a.n ws 0 a.n0) (part a.n ws a.n0 (a.n0 + a.n1)) c.requires.rising.0 c.requires.rising.1
    ∙ ap (sorted (sort_key a.n None)) (part-append a.n ws 0 a.n0 (a.n0 + a.n1) (omega arith) (omega arith))

-- in the code's terms, before the records are written
counted : (c : After-of-2) → let a = c.args in Sizes a.n a.q (left c) (a.n0 + a.n1) a.ones (length a.back.now)
counted c = let a = c.args in sizes a.n a.q a.front.now (a.n0 + a.n1) a.ones (length a.back.now) _ (all-sorted c) c.requires.ones_value c.requires.n_in_bounds_2

-- no records have no words
no_words : (n q : ℕ) → parted_words n q [] ≡ []
unfolding parted_words repartitioned side only sorted flat
no_words n q = refl

pub returns-then-all-eq0 : goal.returns-then-all-eq0
returns-then-all-eq0 c =
    let a = c.args in
    let e = part_none a.n a.front.now 0 (a.n0 + a.n1) (let t = c.if-all-eq0.true in omega arith) in
    ap (sets a.back.now 0) (sym (ap (parted_words a.n a.q) e ∙ no_words a.n a.q))

pub overflow_sub-all : goal.overflow_sub-all
overflow_sub-all c = (counted (goal.at.overflow_sub-all c).After-of-2).within

pub merge_distinct-requires-clause-n0_value : goal.merge_distinct-requires-clause-n0_value
merge_distinct-requires-clause-n0_value c = (counted (goal.at.merge_distinct-requires-clause-n0_value c).After-of-2).clear

pub merge_distinct-requires-clause-room : goal.merge_distinct-requires-clause-room
merge_distinct-requires-clause-room c = (counted (goal.at.merge_distinct-requires-clause-room c).After-of-2).fits

pub returns : goal.returns
unfolding parted_words repartitioned
returns c =
    let a = c.args in
    c.merge_distinct.ensures
    ∙ ap (λ (rs : List (List ℕ)). sets a.back.now 0 (flat (side a.n a.q false rs) ++ flat (side a.n a.q true rs))) (all-sorted (goal.at.returns c).After-of-2)
