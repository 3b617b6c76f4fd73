-- The spans of graphemes, and the walk over them.
pub mod ReversalLemmas
pub mod WalkedLemmas
pub mod RisingMergeLemmas
pub mod GraphemeClusterLemmas
