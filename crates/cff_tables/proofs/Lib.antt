pub mod SearchLemmas
pub mod DictLemmas
pub mod CharsetLemmas
