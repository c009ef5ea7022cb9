-- What contents octets of constructed strings contain (`Within`), and where segments fail (`Failing`). What is added,
-- and which refusals are right (`Refusing`), and the values as which each kind of string is read (`Joining`).
pub mod Within
pub mod Failing
pub mod Refusing
pub mod Joining
pub mod Texts
