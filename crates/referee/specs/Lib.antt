pub mod OpenCells
pub mod Agrees
pub mod Turns
