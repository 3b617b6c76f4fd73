-- The flags of glyphs over a whole run.
pub mod HonestLemmas
pub mod FeatureBitLemmas
