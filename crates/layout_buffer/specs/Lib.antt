pub mod Gap
pub mod GapLists
pub mod GapMerging
pub mod Worked
