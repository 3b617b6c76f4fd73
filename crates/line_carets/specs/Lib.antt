pub mod LineCarets
pub mod Laws
pub mod Worked
