pub mod KeptLemmas
pub mod MadeLemmas
pub mod PreservationLemmas
pub mod VainLemmas
