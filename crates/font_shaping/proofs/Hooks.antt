-- What each shaper's hooks do to what lookups may ask for.
pub mod SyllableLemmas
pub mod UniversalLemmas
pub mod KhmerLemmas
pub mod MyanmarLemmas
pub mod IndicLemmas
pub mod ArabicLemmas
pub mod ScriptLemmas
pub mod GivenLemmas
