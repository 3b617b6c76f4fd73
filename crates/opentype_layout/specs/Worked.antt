pub mod Fonts
pub mod Engine
pub mod Tries
