-- What asnc and octcheck print for a job (`Outputs`), why they print nothing (`Refusals`), and what a sink then has
-- (`Done`). `Shown` says what `show` prints. The answer to a line of standard input is in `Answers`, and what a sink
-- has of the answers to all in `Streams`.
pub mod Answers
pub mod Done
pub mod Outputs
pub mod Refusals
pub mod Shown
pub mod Streams
pub use Rattle.asnc.specs as asnc
pub use Rattle.check_jobs.specs.judging as judging
pub use Rattle.asnc.specs.messages as messages
