pub mod Pages
pub mod Ranges
