mod Whole
mod Texts
