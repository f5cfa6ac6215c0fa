pub mod Numbers
pub mod Masks
pub mod Lines
pub mod Words
pub mod Errors
pub mod Moves
pub mod Cursor
