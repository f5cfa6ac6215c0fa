pub mod BoardBits
pub mod Cases
pub mod CellLaws
pub mod Marks
pub mod MoreBoards
pub mod Parts
pub mod Triples
pub mod WordLaws
