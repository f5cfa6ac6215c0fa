pub mod PackedWord
pub mod Packed
pub mod Words
pub mod Trees
pub mod Free
pub mod Freeing
pub mod Pool
pub mod Walks
