-- Spans that are merged one after the other.
pub mod EachSpanLemmas
pub mod GraphemeWalkLemmas
pub mod GrownLeftLemmas
pub mod StandingLemmas
