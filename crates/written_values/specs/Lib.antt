-- Which notation of a value a text is, and why a text is none (`Written`).
pub mod Written
