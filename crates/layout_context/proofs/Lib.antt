pub mod PlaceLemmas
pub mod NestedLemmas
pub mod AttemptLemmas
pub mod OnceLemmas
pub mod ReverseLemmas
pub mod StageLemmas
pub mod KeptLemmas
pub mod CoveredLemmas
mod OffWalks
pub mod DigestLemmas
pub mod KindLemmas
pub mod TriesLemmas
pub mod FreeLemmas
pub mod WorkLeftLemmas
pub mod LabelLemmas
