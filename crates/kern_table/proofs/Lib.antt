pub mod SubtableLemmas
pub mod SideLemmas
mod SideRows
pub mod PreservationLemmas
