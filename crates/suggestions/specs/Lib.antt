-- Which names may have been meant for one another (`Near`), and the words that say what may have been meant (`Hint`).
pub mod Near
pub mod Hint
