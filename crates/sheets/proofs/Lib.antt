pub mod Beginnings
pub mod Cases
pub mod Openings
pub mod Steps
