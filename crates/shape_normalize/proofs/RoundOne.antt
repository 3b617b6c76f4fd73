-- Round one: sequences, those that hold a variation selector, and what each item becomes.
pub mod PieceLemmas
pub mod AloneLemmas
pub mod SequenceLemmas
pub mod DrawnLemmas
pub mod SelectorLemmas
pub mod RoundOneLemmas
pub mod ChainPartLemmas
pub mod OneWalkLemmas
pub mod EmitLemmas
