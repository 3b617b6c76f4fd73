pub mod SpanLemmas
pub mod ChoiceLemmas
pub mod AloneLemmas
