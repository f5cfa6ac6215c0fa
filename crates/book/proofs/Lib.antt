pub mod ByCheck
pub mod Cases
pub mod Changes
pub mod Kept
pub mod Passing
pub mod Publishing
pub mod TrainerCases
