pub mod Fitting
pub mod Stretching
pub mod Tiles
