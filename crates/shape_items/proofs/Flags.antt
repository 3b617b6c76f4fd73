-- The flags of glyphs.
pub mod FlagLemmas
pub mod ClusterRunLemmas
pub mod ClusterFlagLemmas
pub mod GlyphClusterLemmas
