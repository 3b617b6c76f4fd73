pub mod Merging
pub mod Order
pub mod Deletion
pub mod MergingInOrder
mod Unwritten
pub mod Flags
pub mod PreparedLemmas
mod PropertyLemmas
mod CategoryLemmas
