-- Options and lists: what holds of each, and lists divided into parts.
pub mod OptionLemmas
pub mod EveryLemmas
pub mod DividedLemmas
