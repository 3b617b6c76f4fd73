-- Splits: chains, expansions along them, the choice of one, and the walks that find it.
pub mod ChainLemmas
mod ExpansionLemmas
pub mod WalkLemmas
pub mod ShortestWalkLemmas
pub mod ChoiceLemmas
pub mod ExpandedLemmas
