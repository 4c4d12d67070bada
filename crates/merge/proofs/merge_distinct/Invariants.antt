use Rattle.std.proofs.Common.{◌≡◌, ◌+◌, ◌++◌, true, false, length}
use Rattle.std.proofs.lemmas.List.Edits.{sets}
use Rattle.keys.specs.Lists.{All}
use Rattle.merge.specs.Records.{flat}
use Rattle.merge.specs.Sorting.{side}
use Rattle.merge.specs.Walks.{merged_left}
use Rattle.merge.proofs.Placing.{Going}
use Rattle.merge.proofs.merge_distinct.Given as goal

-- what is left of the merge is on its way to its sides, and each of its records is whole
abbrev pub invariant-loop-r : goal.invariant-loop-r
invariant-loop-r l =
    let n = l.parts.n in
    let all = merged_left l.parts in
    Going n l.q l.n0 (length (side n l.q true all)) (sets l.initial.back 0 (flat (side n l.q false all) ++ flat (side n l.q true all))) (merged_left l.r-iterator) l.o0 l.o1 l.back
    × (length l.back ≡ length l.initial.back) × All (λ r. length r ≡ n + 2) (merged_left l.r-iterator)
