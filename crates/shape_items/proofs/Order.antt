-- The order of clusters.
pub mod DrawsInOrder
pub mod BesideLemmas
pub mod PreservesClusterLemmas
pub mod ReversedLemmas
pub mod GraphemeOrderLemmas
