-- The headline of the front end, for any texts of modules. `Calls` has clauses of the public calls: what the law asks
-- of their results. `OneSchema` says when two schemas are the same, and `Refusals` what a refusal says. `Headline` has
-- which texts are accepted, what they mean, and the whole.
pub mod Calls
pub mod OneSchema
pub mod Refusals
pub mod Headline
