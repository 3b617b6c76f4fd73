pub mod Lookups
pub mod States
pub mod Worked
