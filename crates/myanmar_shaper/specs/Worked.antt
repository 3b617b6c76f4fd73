pub mod Orders
pub mod Places
pub mod Requests
pub mod Syllables
pub mod Texts
