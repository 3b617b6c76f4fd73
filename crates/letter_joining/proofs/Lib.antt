pub mod FlagLemmas
mod FormMaskLemmas
mod KindLemmas
pub mod MaskLemmas
