-- What a verdict means for a value that texts name, and what follows from a yes (`Judged`); why there is no verdict
-- (`Refusals`).
pub mod Judged
pub mod Refusals
pub use Rattle.named_values.specs.front_end as front_end
pub use Rattle.named_values.specs.messages as messages
pub use Rattle.named_values.specs as named_values
