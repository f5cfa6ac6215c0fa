pub mod Promises
pub mod Exists
pub mod Seeking
