pub mod Pauses
pub mod Places
pub mod Reordering
pub mod Requests
pub mod Syllables
pub mod Turning
pub mod Worked
