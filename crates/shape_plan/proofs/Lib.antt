mod DecisionLemmas
pub mod PreservationLemmas
pub mod PlannedLemmas
pub mod MaskLemmas
pub mod KeptLemmas
pub mod AuthorLemmas
