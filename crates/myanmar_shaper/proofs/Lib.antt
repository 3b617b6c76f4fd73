pub mod LengthLemmas
pub mod PauseLemmas
pub mod ReorderingLemmas
pub mod TurningLemmas
