-- The definitions of the two passes, then computed cases, then the laws.
pub mod Passes
pub mod Laws
