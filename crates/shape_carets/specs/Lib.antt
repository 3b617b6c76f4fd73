pub mod Cells
pub mod Carets
pub mod Places
pub mod Selections
pub mod Laws
pub mod Worked
