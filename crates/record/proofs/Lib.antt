pub mod Added
pub mod Checked
pub mod Choosing
pub mod Counted
pub mod Loading
pub mod Marks
pub mod Storing
