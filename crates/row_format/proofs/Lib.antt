mod Joined
mod EntryRows
