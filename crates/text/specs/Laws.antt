-- The laws that the proofs of src/ and the crates above may cite, besides the names of `Words` and
-- `Text`. Each module below has one subject. Assumes nothing.
mod Library
mod Lines
mod Words
pub use Library.{library_reads, eight_at, library_writes, eight_put}
pub use Lines.{digits-length, hex-length, places-less, places-more, places-at, places-range, decimal-length, places-enough, places-fewest, decimal-fewest, digit_value, value, digits-back, decimal-back, hex-back, sets_last, digits_step, put_then, line_of, line-front, put-front, line-text, head-length, step-length, sums-length, tag-length, record-line-length}
pub use Words.{bytes_take, bytes_drop, word_below, bytes_back, word_back, bytes-length, words-length, file-words-length, word-bytes-length, file-bytes-length, words_step, words-all, words-none, words-fill, bytes-step, bytes-none, written_back, stray-stay, read_back}
