pub mod Glyphs
pub mod Scripts
pub mod Features
pub mod Lookups
