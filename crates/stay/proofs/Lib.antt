pub mod Cases
pub mod Exact
pub mod Steps
