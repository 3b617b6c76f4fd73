pub mod GapLemmas
pub mod FrontLemmas
