-- What a message shows of a text: the line near a fault (`Context`), where an octet is (`Lines`), which text is that
-- of a module (`Modules`), which texts it shows as they are (`Plain`), how it shows characters (`Shown`), and what it
-- says of tokens, words and strings (`Strings`).
pub mod Context
pub mod Lines
pub mod Modules
pub mod Plain
pub mod Shown
pub mod Strings
