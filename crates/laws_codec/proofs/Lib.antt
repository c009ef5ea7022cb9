mod Coded
mod Rows
