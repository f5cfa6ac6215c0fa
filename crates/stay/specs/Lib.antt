pub mod Margin
