pub mod Reach
pub mod Worked
