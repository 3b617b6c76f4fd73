mod ArrangingLemmas
pub mod BringingLemmas
pub mod ComposingLemmas
pub mod DrawnLemmas
pub mod LengthLemmas
pub mod OrderingLemmas
pub mod PauseLemmas
pub mod PlaceLemmas
pub mod PositionLemmas
pub mod SettlingLemmas
mod SortedLemmas
pub mod WalkLemmas
