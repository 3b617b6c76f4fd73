pub mod BitLemmas
pub mod EachLemmas
pub mod OnceLemmas
pub mod ApartLemmas
pub mod LawfulLemmas
pub mod StageLemmas
mod NeutralLemmas
mod IdleLemmas
