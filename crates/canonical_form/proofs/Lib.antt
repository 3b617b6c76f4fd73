pub mod Lists
pub mod Expanding
pub mod Ordering
pub mod Recomposing
mod EquivalentLemmas
pub mod MapLemmas
pub mod CutLemmas
pub mod NormaliseLemmas
pub mod LawLemmas
