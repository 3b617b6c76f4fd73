pub mod Scalars
pub mod Deltas
pub mod Coordinates
pub mod Laws
