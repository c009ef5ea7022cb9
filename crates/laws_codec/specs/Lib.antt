-- The headline of the codec, for any schema, type and value. `Calls` has clauses of the public calls: what the law asks
-- of their results. `Headline` has what follows.
pub mod Calls
pub mod Headline
