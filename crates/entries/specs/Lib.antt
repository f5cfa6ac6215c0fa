pub mod Entries
pub mod Published
pub mod Scanning
pub mod SameWords
