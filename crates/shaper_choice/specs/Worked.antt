pub mod Choice
pub mod Scripts
