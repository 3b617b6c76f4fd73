pub mod CellLemmas
pub mod StopLemmas
pub mod SpreadLemmas
pub mod PlaceLemmas
pub mod SelectionLemmas
pub mod RowLemmas
mod PlaceRows
pub mod LawLemmas
pub mod CoverLemmas
pub mod RiseLemmas
