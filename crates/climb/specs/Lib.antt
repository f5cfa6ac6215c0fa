pub mod Asks
pub mod Changed
pub mod Storing
pub mod Turns
