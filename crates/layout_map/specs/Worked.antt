pub mod Settings
pub mod Bits
pub mod Stages
