pub mod ProductLemmas
pub mod SegmentLemmas
pub mod PartLemmas
pub mod DefaultLemmas
pub mod LineLemmas
pub mod LawRows
