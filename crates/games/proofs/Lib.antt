pub mod Answers
pub mod Calling
pub mod FirstPasses
pub mod Parts
pub mod Promising
pub mod SecondPasses
pub mod UnknownGames
