-- What is said of octets that are refused: in what words (`Findings`), of a tag that is not expected (`Tags`), and of
-- contents octets that are those of no value (`Contents`, with the words for items in `Items`). `Places` says where
-- contents octets are in a message.
pub mod Findings
pub mod Tags
pub mod Places
pub mod Contents
pub mod Items
