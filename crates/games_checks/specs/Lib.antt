-- The definitions of the checks, computed cases, then their laws.
pub mod Checks
pub mod Common
pub mod Earliest
pub mod Sums
