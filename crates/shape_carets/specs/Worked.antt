pub mod Carets
pub mod Selections
pub mod Places
