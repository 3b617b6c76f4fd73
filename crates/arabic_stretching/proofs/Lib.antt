mod DrawnLemmas
mod ItemwiseLemmas
mod OutcomeLemmas
mod TurnedLemmas
pub mod PreservationLemmas
