pub mod Cases
pub mod EarliestLaws
pub mod Naming
pub mod Passing
pub mod Sums
