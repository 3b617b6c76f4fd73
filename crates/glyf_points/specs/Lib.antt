pub mod Axes
pub mod Bounded
pub mod Composite
pub mod Flags
pub mod Simple
pub mod Worked
