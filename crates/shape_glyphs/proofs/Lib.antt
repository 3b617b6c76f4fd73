mod StageRuns
pub mod SubstitutionPreservation
mod StepLemmas
mod ClearingLemmas
mod FlagWalkLemmas
mod PreservationLemmas
mod DeletionLemmas
mod CountLemmas
mod ExactLemmas
mod ReversalLemmas
pub mod StepPreservation
mod OneTableLemmas
