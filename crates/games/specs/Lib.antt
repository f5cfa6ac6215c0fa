-- The definition of the call, and its statement; then parts of the pool, the two passes as the code goes through them, the answers, and the statement's proof.
pub mod Games
pub mod GamesStatement
pub mod Answers
pub mod Parts
pub mod Playing
