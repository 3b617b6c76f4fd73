pub mod CanCut
pub mod Places
pub mod Lines
pub mod LinesAt
pub mod Spots
pub mod Ends
