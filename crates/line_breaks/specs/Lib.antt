pub mod Letters
pub mod Units
pub mod Around
pub mod Rules
pub mod Breaks
pub mod Worked
