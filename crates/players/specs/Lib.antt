pub mod Players
pub mod Answers
pub mod Turning
pub mod Gaming
pub mod Matching
pub mod PlayersStatement
