pub mod Sheets
pub mod AgreedOpening
