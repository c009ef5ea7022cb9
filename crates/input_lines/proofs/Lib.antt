mod Ends
mod Lefts
mod Rows
