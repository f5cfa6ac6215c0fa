pub mod Promises
pub mod Selecting
pub mod Finding
pub mod Down
pub mod Descending
