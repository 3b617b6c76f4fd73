pub mod Marking
pub mod Merging
pub mod Words
