pub mod Features
pub mod Flags
pub mod Forms
pub mod Joining
pub mod Worked
