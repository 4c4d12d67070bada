use Rattle.std.proofs.Common.{◌≡◌, ◌*◌, drop}
use Rattle.std.proofs.lemmas.List.Edits.{sets}
use Rattle.text.specs.Words.{file_bytes}
use Rattle.text.proofs.words.put_words.Given as goal

-- the words that are left, written from here, give what all of them give
abbrev pub invariant-loop-k : goal.invariant-loop-k
invariant-loop-k l = sets l.bytes (8 * l.k) (file_bytes (drop l.k l.words)) ≡ sets l.initial.bytes 0 (file_bytes l.words)
