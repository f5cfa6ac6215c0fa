pub mod Looking
pub mod MatchCases
pub mod Playing
pub mod Wins
