pub mod Rows
pub mod Subtags
pub mod Script
pub mod PrivateUse
pub mod Language
pub mod Worked
