pub mod Units
pub mod OctetSteps
pub mod BitSteps
pub mod Tags
pub mod OneFault
pub mod ByKind
pub mod OneJoining
