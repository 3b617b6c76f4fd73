pub mod Classes
pub mod Substitution
pub mod Lookups
pub mod Positions
pub mod Glyphs
pub mod Steps
pub mod Phases
