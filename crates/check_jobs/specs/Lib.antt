-- What a job has of the files that it names (`Inputs`), and what octcheck prints for it (`Checks`).
pub mod Checks
pub mod Inputs
pub use Rattle.judging.specs as judging
