pub mod Keys
pub mod Words
pub mod Shaping
pub mod Spellings
pub mod Laws
pub mod Worked
