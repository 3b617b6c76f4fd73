pub mod Features
pub mod Variations
pub mod Texts
pub mod Json
pub mod Starts
