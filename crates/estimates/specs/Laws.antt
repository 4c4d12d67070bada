-- The laws of estimates that the crates above may cite. Assumes nothing.
mod Changes
mod Estimates
pub use Estimates.{four, pair-alone, pair-with, deltas-balance, entries-length, collapse-refused, forecast-refused, collapse-empty, collapse-at, TotalsSay, totals-say, forecast-overflow, forecast-of, collapse-by, forecast-by, empty-estimate, single-estimate}
pub use Changes.{Facts, at_most_one, change-facts, not-unpaired, small-change, SayDrops, say-drops, few-unpaired, few-dropped, few-records, few-totals, collapse-response, forecast-response, collapse-not-finite, forecast-not-finite}
