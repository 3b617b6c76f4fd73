pub mod ContourLemmas
pub mod PartLemmas
