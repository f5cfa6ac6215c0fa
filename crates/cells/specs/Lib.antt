pub mod RecordWords
pub mod Reading
pub mod BoardBits
pub mod Triples
