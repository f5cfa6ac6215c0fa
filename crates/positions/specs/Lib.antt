pub mod Plies
