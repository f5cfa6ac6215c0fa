pub mod Printed
pub mod Padding
pub mod Decimals
pub mod Answers
pub mod PrintedCases
