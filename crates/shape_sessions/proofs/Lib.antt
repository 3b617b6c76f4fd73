pub mod WordLemmas
mod LineLemmas
mod FlagLemmas
mod PrintingLemmas
