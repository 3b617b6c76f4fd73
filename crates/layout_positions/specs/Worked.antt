-- The definitions, computed on tables and buffers that were read by hand.
pub mod Lines
pub mod Values
pub mod Devices
pub mod Sizes
pub mod Pairs
pub mod Marks
pub mod Known
pub mod Paired
pub mod Cursive
pub mod Attachment
pub mod Forest
pub mod Walk
pub mod Tries
pub mod Stage
pub mod Types
