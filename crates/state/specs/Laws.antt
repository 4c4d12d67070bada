-- The laws that layer `state` promises the crates above: all that they may cite of it besides
-- names. Each room below it promises those of its own calls, about the definitions that the
-- contracts cite; they are passed on here. Assumes nothing.
mod Fresh
mod FreshEstimate
mod Lookup
mod Sums
-- what a call's answer says
pub use Rattle.statevector.specs.Laws.{check-response}
pub use Fresh.{fresh_by, fresh-response}
pub use Lookup.{lookup-response}
pub use Sums.{premeasure-response}
pub use Rattle.gates.specs.Laws.{gate-response}
pub use Rattle.measurement.specs.Laws.{measure-response}
pub use Rattle.estimates.specs.Laws.{collapse-response, forecast-response}
pub use Rattle.dense.specs.Laws.{dense-response}
pub use Rattle.comparison.specs.Laws.{compare-response}
-- the tests, and what holds of an accepted state
pub use Rattle.statevector.specs.Laws.{Sound, accepted-sound, sound-accepted, fine-accepts, accepts-fine, qubit-accepts, accepts-qubit, accepted-check, fine-sound, first-none, first_fine, first-after, first-before}
pub use Rattle.statevector.specs.Laws.{side-words, stored-keys, distinct-entries, finite-entries}
-- what each accepted call leaves
pub use Fresh.{fresh-made, fresh-sound, fresh-accepted, fresh-entries}
pub use FreshEstimate.{fresh-estimate}
pub use Rattle.estimates.specs.Laws.{empty-estimate}
pub use Rattle.dense.specs.Laws.{dense-done, dense-sound, dense-accepted, dense-records}
pub use Rattle.gates.specs.Laws.{front_after, GateKept, gate-kept, gate-words, gate-at, results, addresses-of, new_is, new_none}
pub use Rattle.measurement.specs.Laws.{over_at, Measured, measure-done, measure-words, measured-accepted, measured-at}
pub use Sums.{sums-from-zero, sums-no-nan}
pub use Lookup.{lookup-accepted, lookup-finite, export-accepted, export-part}
-- a comparison of two keys: when it is done, and its answer
pub use Rattle.comparison.specs.Laws.{TwoKeys, compare-done, compare-accepted, compare-refused, compare-width, compare-qubit, compare-length, compare-fine, fine-compare, wrong_key_rows, compare-wrong-key, compare-pairs, compare-exchanged}
-- a call that was done had an accepted state
pub use Rattle.gates.specs.Laws.{gate-accepted}
-- the stores' lengths
pub use Fresh.{fresh-length}
pub use Rattle.gates.specs.Laws.{gate-lengths}
pub use Rattle.measurement.specs.Laws.{measure-lengths}
pub use Rattle.dense.specs.Laws.{dense-lengths}
-- what each refused call leaves
pub use Fresh.{fresh-refused}
pub use Rattle.gates.specs.Laws.{gate-refused}
pub use Rattle.measurement.specs.Laws.{measure-refused}
pub use Rattle.dense.specs.Laws.{dense-refused}
-- a gate and a scale that are not finite, as far as they matter
pub use Rattle.gates.specs.Laws.{gate-not-finite}
pub use Rattle.measurement.specs.Laws.{scale-not-finite}
pub use Rattle.estimates.specs.Laws.{collapse-not-finite, forecast-not-finite}
-- of the layers below, what the layer above goes by
pub use Rattle.statevector.specs.Laws.{and-true-l, and_true_r, read-as-written, read-finite, gate-finite, gate_same}
