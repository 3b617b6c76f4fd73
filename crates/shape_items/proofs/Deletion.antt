-- Deletion, and what it keeps.
pub mod DeleteLemmas
pub mod DeletePreserves
