-- The laws of measurements that the crates above may cite. Assumes nothing.
mod Calls
mod Divided
mod Measurement
pub use Divided.{divided_if, over_if, over_at, divided_all, side-at}
pub use Measurement.{target, new_store, GoesOn, new-part, measured-sound, measured-at}
pub use Calls.{Measured, measure-done, measure-refused, measure-words, measured-accepted, measure-response, scale-not-finite, measure-lengths}
