-- The laws of gates that the crates above may cite. Each module below has one subject. Assumes
-- nothing.
mod Calls
mod Gates
mod Below
mod Keeping
mod Passes
mod Results
pub use Gates.{gate-part-same, gate-finite-same, parted, parted-part, parted-finite}
pub use Keeping.{Room, new-sound, new-entries, new-words, front_after, GateKept, gate-kept}
pub use Below.{gate-words}
pub use Passes.{part-textbook, finite-textbook, moderate-pairs}
pub use Results.{new-all, new-keys, new_is, new_none, results, addresses-of, part-keys, part-rises, gate-at, some_inj, part-fits, part-finite}
pub use Calls.{gate-staged, gate-response, gate-refused, gate-not-finite, gate-accepted, gate-lengths}
