pub mod Calls
pub mod Answers
pub mod Playing
pub mod Writing
