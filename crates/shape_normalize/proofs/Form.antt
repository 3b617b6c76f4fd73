-- Canonical form: normalised characters, their form, cuts, and the test of the premises.
pub mod PreparedLemmas
pub mod CompareLemmas
pub mod NormalFormLemmas
mod CutFormLemmas
mod OrderedFormLemmas
pub mod CanonicalFormLemmas
mod FrontLemmas
pub mod PremiseTestLemmas
