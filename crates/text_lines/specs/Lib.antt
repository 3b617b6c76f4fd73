pub mod Levels
pub mod Lines
pub mod Pieces
pub mod Reach
pub mod Worked
pub mod WorkedLevels
