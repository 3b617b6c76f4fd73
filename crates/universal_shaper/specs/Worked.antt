pub mod Categories
pub mod Forms
pub mod Orders
pub mod Pauses
pub mod Records
pub mod Requests
pub mod Syllables
pub mod Texts
