pub mod Faces
pub mod Splitting
pub mod Swapping
pub mod Worked
pub mod Changing
pub mod Rules
pub mod Layouts
pub mod Doubling
