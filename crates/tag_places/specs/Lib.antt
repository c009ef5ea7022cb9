-- What a reader has to believe: when some keys are those of types, in order.
pub mod Keys
