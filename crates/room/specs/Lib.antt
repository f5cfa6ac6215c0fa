pub mod ChildCount
pub mod Shortness
