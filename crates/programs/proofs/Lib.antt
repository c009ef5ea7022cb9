mod FirstWord
mod Faults
mod Rows
