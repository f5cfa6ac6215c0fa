pub mod Skips
pub mod Counts
pub mod Taken
pub mod Scalars
pub mod After
pub mod Leaves
pub mod Children
