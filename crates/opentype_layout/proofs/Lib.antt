pub mod NumberLemmas
pub mod PreservationLemmas
pub mod DigestLemmas
pub mod StageLemmas
pub mod PositionLemmas
pub mod StoredLemmas
pub mod CallLemmas
