pub mod FieldLemmas
pub mod JoinLemmas
pub mod MaskLemmas
