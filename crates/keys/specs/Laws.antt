-- The laws that `keys` promises the crates above, for any number of words: all that they may cite
-- of it besides names. Each module below has one subject. Assumes nothing.
mod Bits
mod Comparisons
mod Masks
mod Orders
pub use Orders.{width-range, reverse, order-refl, order-reverse, order-equal, order_trans, less-not-equal, less-greater, greater-less, order-first, order-says, says-order, same-order, same_refl, same-is, same-eq, not_same, below-not-same, same-iff}
pub use Comparisons.{difference-unique, difference-refl, difference-none, pairs_first, pairs-same, pairs-range, pairs-comm, pairs-agree, pairs-differ, pairs_decide}
pub use Bits.{key-range, range-bit, key-length, key-word, key-first, key-words, qubit-word, bit-take, length-clear, length-toggle, toggle-word, toggle-toggle, bit-toggle, bit-toggle-other, toggle-key, clear-key, bit-clear, clear-off, clear-on, clear-toggle, clear-pair, same-toggle, order-clear, same-clear, toggle-order, partner-toggled, length_without, word-of-without}
pub use Masks.{zero-words, index-back, index-front, length-index, index-first, index-other, index-zero, zero_bit, index-order, zip_length, zip_word, masked-key, flipped-key, bit_masked, bit-flipped, flipped-twice, mask-key}
-- what the machine's operations do to one bit, and what runs of stores leave
pub use Rattle.keys.specs.Words.{and_one, and-bit, xor-bit, one_shifted, mask-clears}
pub use Rattle.keys.specs.Stores.{sets-start, sets-next, sets-whole, part-back, sets-append, sets-comm, sets-step, sets-none, sets-one, sets-tail, tail-back, sets-in-tail, sets-self, get_d_sets, set-in-sets, toggle-copied}
