pub mod Cases
pub mod Laws
pub mod Oracle
pub mod TwoSearches
pub mod Unheld
