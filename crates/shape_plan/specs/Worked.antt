pub mod Requests
pub mod Decisions
pub mod Plans
pub mod Faces
pub mod Texts
pub mod Runs
