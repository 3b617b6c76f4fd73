mod PositionsLemmas
mod SpacesLemmas
mod MarksLemmas
mod BasesLemmas
pub mod PreservationLemmas
mod ExactLemmas
