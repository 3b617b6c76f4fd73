pub mod NeighbourLemmas
pub mod TextOrderLemmas
pub mod PlaceLemmas
pub mod PieceLemmas
pub mod TotalLemmas
pub mod LeastLemmas
pub mod WalkedLemmas
pub mod RightLineLemmas
pub mod DecideLemmas
pub mod UniqueLemmas
pub mod SpotLemmas
pub mod MeasureLemmas
pub mod AtUniqueLemmas
mod EndRows
mod CanCutRows
mod PlaceRows
pub mod AtDecideLemmas
