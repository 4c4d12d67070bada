-- The laws of dense imports that the crates above may cite. Assumes nothing.
mod Dense
pub use Dense.{record-count, dense-whole, dense-finite, imported, Imported, dense-done, dense-sound, dense-records, dense-accepted, dense-response, dense-refused, dense-lengths}
