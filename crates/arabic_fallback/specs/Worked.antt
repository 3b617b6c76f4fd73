pub mod Forms
pub mod Ligatures
pub mod Faces
pub mod Vain
pub mod Charges
pub mod Merging
pub mod Parts
