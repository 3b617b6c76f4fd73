pub mod Orders
pub mod Requests
pub mod Splitting
pub mod Syllables
pub mod Texts
