pub mod SignedLemmas
pub mod SizeLemmas
