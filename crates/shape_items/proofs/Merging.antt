-- Merging clusters and marking items: what is left, and what stays.
pub mod ClusterLemmas
pub mod KeyLemmas
pub mod MergeOrder
pub mod JoinLemmas
pub mod NestedMergeLemmas
