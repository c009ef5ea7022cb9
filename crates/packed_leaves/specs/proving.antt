pub mod Contents
pub mod Items
pub mod Texts
pub mod Counting
