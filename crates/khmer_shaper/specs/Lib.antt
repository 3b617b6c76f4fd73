pub mod Falling
pub mod Pauses
pub mod Reordering
pub mod Requests
pub mod Splitting
pub mod Syllables
pub mod Worked
