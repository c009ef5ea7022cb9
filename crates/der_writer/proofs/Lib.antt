pub mod First
