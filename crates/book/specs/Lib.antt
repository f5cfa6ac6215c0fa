pub mod Book
pub mod Lists
pub mod BookStatement
pub mod TrainerStatement
pub mod Answers
