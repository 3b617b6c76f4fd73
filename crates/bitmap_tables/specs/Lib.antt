pub mod Boxes
pub mod Strikes
pub mod Sbix
pub mod Cblc
pub mod Cbdt
pub mod Tables
pub mod Worked
