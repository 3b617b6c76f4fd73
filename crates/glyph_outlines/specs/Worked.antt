pub mod Contours
pub mod Frames
pub mod Places
pub mod Varied
