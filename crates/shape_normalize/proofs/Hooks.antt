-- What hooks must provide, and what the rules of a run must provide by them.
pub mod LawfulLemmas
pub mod RulesLemmas
pub mod ReorderLemmas
pub mod ReorderedLemmas
