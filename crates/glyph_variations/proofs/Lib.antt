pub mod FillLemmas
pub mod SkipLemmas
pub mod RunLemmas
pub mod TimesLemmas
pub mod TouchLemmas
