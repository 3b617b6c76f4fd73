pub mod Circles
pub mod Items
pub mod Moving
pub mod Numbering
pub mod Vowels
