mod Adding
mod Found
mod Rows
mod Refused
mod Said
