pub mod Searches
pub mod Answers
pub mod Accepting
pub mod ThirdCondition
pub mod StayStatement
pub mod StepThree
