-- What a reader has to believe: the tags of types (`Tags`), and the tags that can be first and where they must differ
-- (`First`). Tables whose types have their tags, and how a type breaks that (`Tagged`). What faults say (`Faults`), and
-- which fault is reported first and where (`FirstFault`). Only contracts inside the crate, and proofs, speak of
-- `proving`. `Tables`: what an owner of modules keeps beside them.
pub mod Tags
pub mod First
pub mod Tagged
pub mod Tables
pub mod Faults
pub mod FirstFault
pub mod proving
