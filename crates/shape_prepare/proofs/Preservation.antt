-- What preparing preserves.
pub mod StepPreservation
pub mod PreservationLemmas
pub mod FirstLemmas
pub mod PreparedLemmas
pub mod CharacterLemmas
