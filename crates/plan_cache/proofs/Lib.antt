mod KeyRows
pub mod ListLemmas
