pub mod Coverages
pub mod Digests
pub mod Lookups
pub mod Stored
pub mod Worked
pub mod LigatureSets
pub mod WholeRules
