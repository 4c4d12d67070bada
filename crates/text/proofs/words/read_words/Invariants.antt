use Rattle.std.proofs.Common.{◌≡◌, ◌-◌, ◌/◌, length}
use Rattle.std.proofs.lemmas.List.Edits.{sets}
use Rattle.text.specs.Words.{words_from, file_words}
use Rattle.text.proofs.words.read_words.Given as goal

-- the words that are left, stored from here, give what all of them give
abbrev pub invariant-loop-k : goal.invariant-loop-k
invariant-loop-k l = sets l.words l.k (words_from l.bytes l.k (length l.bytes / 8 - l.k)) ≡ sets l.initial.words 0 (file_words l.bytes)
