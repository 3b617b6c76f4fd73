pub mod Indic
pub mod Khmer
pub mod Myanmar
pub mod Universal
