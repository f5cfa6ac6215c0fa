pub mod Rules
pub mod Refusals
pub mod Record
pub mod Choice
pub mod Examples
pub mod Legal
