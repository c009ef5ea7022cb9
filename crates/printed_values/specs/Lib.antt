-- What a reader has to believe: which values have no text with a line end in it (`LineEnds`), and when a printed text
-- is read back as a value (`ReadBack`).
pub mod LineEnds
pub mod ReadBack
