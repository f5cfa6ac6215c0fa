pub mod Answers
pub mod Calling
pub mod Gaming
pub mod Matching
pub mod Promising
pub mod Turning
