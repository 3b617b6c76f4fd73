mod CoverageLemmas
mod LookupLemmas
mod StoredLemmas
pub mod TriedLemmas
mod WordLemmas
mod LigatureSetLemmas
pub mod WholeRuleLemmas
