pub mod Final
pub mod Verdicts
