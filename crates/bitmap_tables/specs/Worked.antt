pub mod Strikes
pub mod Cbdt
