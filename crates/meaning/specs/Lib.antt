-- What the numbers mean, of any game and of a record; then computed cases; then the laws.
pub mod Meaning
pub mod Leaves
pub mod UnknownMeans
