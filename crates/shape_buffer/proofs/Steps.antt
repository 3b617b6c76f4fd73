-- Lists of steps, and what steps keep.
pub mod Runs
pub mod PreservationLemmas
pub mod ReplaceLemmas
