pub mod Playing
pub mod Refusing
pub mod Turned
pub mod Writing
