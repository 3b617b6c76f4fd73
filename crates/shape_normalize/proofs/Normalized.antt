-- What the normalised list has of its text: glyphs, feature bits, hidden bits, clusters, flags, settings.
pub mod NormalizedLemmas
pub mod SettingLemmas
pub mod FeatureLemmas
pub mod HiddenLemmas
pub mod ItemGlyphLemmas
pub mod ClusterOrderLemmas
pub mod NormalFlagLemmas
pub mod PromiseLemmas
