pub mod Cases
pub mod Found
pub mod Places
pub mod Reporting
pub mod RowsOfPlaces
pub mod RowsOfReports
pub mod Tokens
