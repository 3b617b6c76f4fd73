pub mod GraphicLemmas
pub mod RecordLemmas
pub mod StrikeLemmas
