-- The laws that `statevector` promises the crates above: all that they may cite of it besides
-- names. Each module below has one subject. Assumes nothing.
mod Answers
mod Passed
mod Scans
mod States
mod Accepting
mod Tests
pub use Answers.{both-clauses, check-response}
pub use Passed.{QubitReady, qubit-ready}
pub use Scans.{scan-path, sound-rises, scans, rows-not-rising, rows_settled, rows-meet, rows-off-side, rows-untagged, seen-fine}
pub use States.{one_if, tag-eq, tag-is, records-are, records-length, stored-keys, distinct-records, distinct-entries, finite-entries, stores-again, stores-marked, same-lengths, side-words}
pub use Accepting.{Sound, all_true, true-all, rises-rising, rising-rises, meets-apart, apart-meets, on-side, all-on-side, all-finite, finite-all, accepted-sound, sound-accepted}
pub use Tests.{first-none, fine-first, first_fine, first-here, first-later, first-after, first-before, fine-both, rows_of, rows-of, word-inside, word-outside, word_test, qubit-within, within-qubit, finite-row, row-finite, fine-accepts, accepts-fine, tests-rest, tests-refused, qubit-accepts, accepts-qubit, qubit-rest, qubit-refused, HeadFine, head-facts, head-fine, head-refused, accepted-check, fine-sound, room-first, not_finite_tested, not-finite-tests, not-finite-alike}
-- of the layers below, what the layer above goes by
pub use Rattle.merge.specs.Laws.{and-true-l, and_true_r, read-as-written, read-finite, gate-finite, gate_same}
