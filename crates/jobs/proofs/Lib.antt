mod Answering
mod Refused
mod Rows
mod RowsOfLines
mod Streaming
mod Unnamed
