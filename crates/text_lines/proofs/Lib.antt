pub mod PartLemmas
pub mod LevelLemmas
pub mod WorkedLemmas
