pub mod Choice
pub mod Laws
pub mod Worked
