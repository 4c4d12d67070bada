use Rattle.std.proofs.Common.{◌≡◌, length}
use Rattle.std.proofs.lemmas.List.Edits.{sets}
use Rattle.text.specs.Text.{digits}
use Rattle.text.proofs.digits.put_digits.Given as goal

-- the digits of the rest, stored at the front, give all of them
abbrev pub invariant-loop-i : goal.invariant-loop-i
invariant-loop-i l = sets l.bytes 0 (digits l.base l.i l.rest) ≡ digits l.base (length l.initial.bytes) l.n
