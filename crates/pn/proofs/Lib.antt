-- The four causes, and the steps of a round, as proofs go through them.
pub mod Causes
pub mod Rounds
