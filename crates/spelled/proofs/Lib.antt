mod Words
mod Keeping
mod Typing
mod Moduling
mod Numbering
mod Rows
