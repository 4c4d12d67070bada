-- The laws that `merge` promises the crates above: all that they may cite of it besides names. Each
-- module below has one subject. Assumes nothing.
mod Addresses
mod Entries
mod PairAmplitudes
mod Pairings
mod Pairs
pub mod Places
mod Records
mod Repartitions
mod Sides
mod Sorting
mod Stores
mod Walks
mod Words
mod Writing
pub use Addresses.{itself, addresses-all, addresses-rise, addresses-perm, perm-map, entries-keys, member, no_member, Address, addresses-clear, Bare, no_address}
pub use Entries.{key_in, at-nil, at_here, at_other, at-cons, Some≢None, at_none, or_else, or_else-none, at-append, at_all, at_own, at-perm, rising-unique, decode_is, all-keys, all-amplitudes, entries-append, Right, position-right}
pub use Pairings.{address, address_of, Above, pairs-ind, pair_records, pairs-once, enter-comm, addresses_of, Met, met, pair_up}
pub use PairAmplitudes.{look-pairs, each-made, in_pair, on_side, amplitude_in, all-addresses, rise-addressed, pair-keys, at_side, pair-amplitudes}
unfoldable pub use Pairings.{record_for, pair_for}
pub use Pairs.{here, pairs-both, pairs-lhs, pairs-rhs, pairs_end, Ahead, ahead_of, paired-next, AnswerSays, answer-says, answer-lhs, answer-rhs, answer-both, answer-end, every-pair}
pub use Rattle.merge.specs.Walks.{InPair}
pub use Records.{part_none, part-some, part-append, part-around, part_length, all-part, part-each, part-every, record-below, fewer-records, below_end, past_end, record-fits, capacity-is, capacity-room, room-capacity, record-length, record-from, from-word, from_key, from-bit, from-length, from-amplitude, from-finite, from-moderate, record-key, record-bit, finite-amplitude, moderate-amplitude, moderate-record, record-key-length, new-key-length, encode-length, WholeRecords, part-whole, flat-length, flat_append, flat-one, read-part, encode-decode, decode-encode}
pub use Repartitions.{by_key, repartition-perm, repartition-length, repartition-all, repartition-rises, repartition-side, entries-distinct, repartition-at, parted-words}
pub use Sides.{side-none, side-some, side-count, all-side, side-rising, side-append, side-whole, side-empty, side-fewer, side-full, side-both, side-next, side-end, repartition-count}
pub use Sorting.{Distinct, insert-first, insert-perm, sorted-perm, split-perm, perm-length, perm-all, perm-distinct, sorted-self, all_insert, all-sorted, all-only, only-passes, sorted-rising, only-rising, rising-distinct, distinct_append, all-into, all-merged, merged-sorted}
pub use Stores.{next_place, part-flat, drop-sets, record_same, entry-sets, after-record, sets-record, sets-no-records}
pub use Walks.{yields-one, records-none, records-some, records-few, records-whole, records-flat, records-part, pairs-none, pairs-first, pairs-second, pairs-next, merged-none, merged-first, merged-second, merged-next, pairs-partners, partners-left, pairs-of, own-width, record-width, record-finite, pair-finite}
pub use Words.{encode-key, encode-amplitude, encode-finite, entries-encode, encode-words, flat-words, sets-words, part-words}
pub use Writing.{Left, next, spot, put-room, put, put_all, put-none}
-- of the layers below, what the layer above goes by
pub use Rattle.amplitudes.proofs.Laws.{accumulated-is, add-from-zero, applied-is, finite-no-nan, from-zero-no-nan, gate-finite, gate_same, moderate-applied, moderate-finite-gate, moderate-over, moderate-pair, over-fits, pair_is, pattern-back, plus-fits, read-as-written, read-finite, running-from-zero, times-fits}
pub use Rattle.keys.specs.Laws.{below-not-same, bit-toggle, clear-off, clear-on, greater-less, index-order, key-words, length-index, length-toggle, length_without, less-not-equal, not_same, order-equal, order-reverse, order_trans, pairs-comm, pairs-range, qubit-word, reverse, same-eq, same-is, same-toggle, sets-start, sets-append, sets-none, sets-self, sets-step, tail-back, toggle-key, toggle-order, toggle-toggle, width-range, zero_bit}
pub use Rattle.keys.specs.Lists.{all_append, all_both, all_left, all_map, all_right, all_take, not-self, cond-few, and-true-l, and_true_r, or-false-l, or-false-r}
