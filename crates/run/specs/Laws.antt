-- The laws that `run` promises the crates above: all that they may cite of it besides names. Each
-- module below has one subject. Assumes nothing.
mod Answers
mod Keeping
mod Lists
mod Reading
mod Steps
pub use Answers.{step-response, list-step-response, step_left, run-response}
pub use Keeping.{Good, step_kept, list-step-kept, run-kept, run-of-kept, trial-kept, accepted-run, accepted-append}
pub use Lists.{go_on, more-none, more-more, steps-append, run-some, run_none, run-append, run-within, run-all, one-stopped, trial-append, unknown-refused, malformed-refused, premeasure-refused-in-list, unknown-last}
pub use Reading.{step-begins, gate-as-written, scale-as-written, step-as-read}
pub use Steps.{NoNan, step-no-nan}
