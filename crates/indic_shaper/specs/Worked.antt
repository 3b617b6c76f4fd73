pub mod Finals
pub mod Initial
pub mod Scripts
pub mod Settling
pub mod Steps
pub mod Texts
