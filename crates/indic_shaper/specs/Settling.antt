pub mod Bases
pub mod Matras
pub mod Rephs
pub mod Prefs
pub mod Syllables
