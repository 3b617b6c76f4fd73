-- Fractions, ranges of features, and what the steps of masks preserve.
pub mod RangeLemmas
pub mod SlashLemmas
pub mod MaskLemmas
pub mod FeatureBitLemmas
pub mod MaskPreservation
