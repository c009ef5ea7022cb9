-- What octets answer to each question of a routine, by the basic rules. `Units` is an encoding at the start of octets,
-- `States` the state of a reader with what it has read, and `Found` components and alternatives by the next tag.
-- `Answers` has the answers, `Asked` which question an answer belongs to, and `Unanswered` the state after a question
-- without an answer.
pub mod Units
pub mod States
pub mod Found
pub mod Answers
pub mod Asked
pub mod Unanswered
pub mod proving
