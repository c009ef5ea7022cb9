-- What a reader has to believe: the parts of a type by their names (`Named`), a SEQUENCE or SET while it is made
-- (`Building`), what is made of a name (`Made`), and why nothing is (`Refused`).
pub mod Named
pub mod Building
pub mod Made
pub mod Refused
pub mod proving
