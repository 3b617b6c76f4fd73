pub mod EachShaper
pub mod Strings
pub mod RunTries
pub mod Worked
