pub mod Words
pub mod Compared
pub mod Pools
pub mod Lent
pub mod Margins
