pub mod AppendLemmas
pub mod PartLemmas
mod TextLemmas
mod StartLemmas
