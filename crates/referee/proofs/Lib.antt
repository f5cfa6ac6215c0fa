pub mod Counting
pub mod Deciding
