pub mod CategoryLemmas
pub mod WrappingLemmas
