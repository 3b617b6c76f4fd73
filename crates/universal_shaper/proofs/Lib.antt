pub mod LawfulLemmas
mod LengthLemmas
pub mod MaskLemmas
pub mod PauseLemmas
pub mod RecordingLemmas
pub mod ReorderingLemmas
pub mod SyllableLemmas
