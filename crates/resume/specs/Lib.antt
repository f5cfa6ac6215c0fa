-- A lone search as one of the games of the two passes; a search that is kept; and its second pass.
pub mod Lone
pub mod Keeping
pub mod Passing
