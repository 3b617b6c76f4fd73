pub mod Contours
pub mod Frames
pub mod Lefts
pub mod Places
pub mod Varied
pub mod Worked
