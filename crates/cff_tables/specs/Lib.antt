pub mod Bytes
pub mod Index
pub mod Dict
pub mod Charset
pub mod Select
pub mod Font
pub mod Worked
