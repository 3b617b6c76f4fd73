pub mod Least
pub mod Ordered
pub mod Ordering
pub mod Worked
