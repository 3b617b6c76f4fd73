pub mod TotalLemmas
pub mod KeyLemmas
pub mod ShapingLemmas
pub mod LawLemmas
mod WordRows
mod KeptRows
