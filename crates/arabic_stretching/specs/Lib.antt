pub mod Copying
pub mod Fitting
pub mod Stretching
pub mod Tiles
pub mod Worked
