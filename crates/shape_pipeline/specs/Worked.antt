pub mod Passes
pub mod Run
pub mod Beginnings
pub mod Obligations
