pub mod LeastLemmas
pub mod OrderedLemmas
