pub mod Compared
pub mod Counted
pub mod Lent
pub mod Margins
pub mod Words
