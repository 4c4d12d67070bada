-- `measurement::move_words` meets its contract. Assumes nothing.
use Prim.Native.Nat.{ℕ, ◌+◌, ◌-◌, ◌≤◌}
use mathlib.Core.Path.{◌≡◌, sym, ◌∙◌}
use mathlib.Core.List.{List}
use native.Mathlib.Omega.{arith}
use lib.ListN.{length, take, drop, length-take, length-drop}
use lib.Seq.{sets, sets-eq}
use Rattle.std.specs.List.{copy_within}
use Rattle.measurement.proofs.Normalizing.{moved_none}
use Rattle.measurement.proofs.move_words.Goals as goal

-- the library's copy, as words over words
moved : (ws : List ℕ) (from to many : ℕ) → to ≤ from → from + many ≤ length ws → copy_within ws from (from + many) to ≡ sets ws to (take many (drop from ws))
moved ws from to many h l =
    let n : length (take many (drop from ws)) ≡ many = simp (length-take, length-drop) (omega arith) in
    let d : from + many - from ≡ many = omega arith in
    rw d (rw n at (sym (sets-eq (take many (drop from ws)) ws to (omega arith))))

pub returns-then-from-to : goal.returns-then-from-to
returns-then-from-to c =
    let a = c.args in
    c.copy_within.ensures.after ∙ moved a.ws.now a.from a.to a.many c.requires.to_le_from c.requires.many_in_bounds

pub returns-else-from-to : goal.returns-else-from-to
returns-else-from-to c =
    let a = c.args in
    moved_none a.ws.now a.from a.to a.many c.if-from-to.false c.requires.many_in_bounds
