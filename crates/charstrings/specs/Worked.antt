pub mod Operators
pub mod Runs
pub mod Boxes
