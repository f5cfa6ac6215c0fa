pub mod Progress
pub mod Opened
pub mod Boards
pub mod Targets
pub mod Expandable
pub mod Expanding
