pub mod Apple
pub mod Kern
pub mod Engine
pub mod Sides
pub mod Charges
