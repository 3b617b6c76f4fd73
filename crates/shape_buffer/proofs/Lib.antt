pub mod Flags
pub mod Steps
pub mod Loops
mod FillLemmas
mod TextLemmas
