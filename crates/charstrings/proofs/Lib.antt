pub mod OutlineLemmas
pub mod SignedLemmas
