mod Spans
pub mod Preservation
pub mod Masking
mod StepLemmas
mod GraphemeLemmas
