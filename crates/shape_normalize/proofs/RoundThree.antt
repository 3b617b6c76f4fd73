-- Round three: the walk that recomposes, its places and spans, and what it keeps.
pub mod RoundThreeWalkLemmas
pub mod RoundThreePlaceLemmas
pub mod ChainedSpanLemmas
pub mod TakenOutLemmas
pub mod MergedMarkLemmas
pub mod RoundThreeLemmas
pub mod RecomposedItemLemmas
pub mod RecomposedCharsLemmas
pub mod RecomposedClusterLemmas
pub mod ByAllLemmas
