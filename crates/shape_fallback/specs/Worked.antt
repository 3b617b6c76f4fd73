pub mod Ccc
pub mod Spaces
pub mod OneMark
pub mod Marks
pub mod Buffers
pub mod Directions
