-- `merge::place` meets its contract: a record in the lent tail of the store is one in the store.
-- Assumes nothing.
use Rattle.std.proofs.Common.{ℕ, ◌-◌, List, length, take, drop, sym, ap, ◌∙◌, arith, length-take, length-drop}
use Rattle.std.proofs.lemmas.List.Edits.{sets}
use Rattle.keys.specs.Laws.{part-back, tail-back}
use Rattle.merge.proofs.place.Goals as goal

pub returns-then-bit-clause-back_after : goal.returns-then-bit-clause-back_after
returns-then-bit-clause-back_after c =
    let a = c.args in
    let r = a.r.words.now in
    let l = a.back.now in
    let w = a.r.whole in
    let tail : List ℕ = take (length l - a.at) (drop a.at l) in
    let room = c.requires.room1 (sym c.if-bit.ensures) in
    tail-back l _ a.at a.o1 r c.requires.at_in_bounds
    (part-back tail _ a.o1 (length r) (simp (length-take, length-drop) (omega (arith, room))) (c.copy_words.auto.dst ∙ simp (length-take, length-drop) (omega (arith, room)))
    ∙ ap (sets tail a.o1) c.copy_words.ensures)

pub returns-else-bit-clause-back_after : goal.returns-else-bit-clause-back_after
returns-else-bit-clause-back_after c =
    let a = c.args in
    let r = a.r.words.now in
    let w = a.r.whole in
    let room = c.requires.room0 (sym c.if-bit.ensures) in
    part-back a.back.now _ a.o0 (length r) (omega (arith, room)) (c.copy_words-else-bit.auto.dst ∙ simp (length-take, length-drop) (omega (arith, room)))
    ∙ ap (sets a.back.now a.o0) c.copy_words-else-bit.ensures
