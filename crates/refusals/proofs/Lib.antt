pub mod Checking
pub mod Passes
