mod BracketLemmas
mod CanonicalLemmas
mod DirectionLemmas
mod LastStepLemmas
mod MirrorLemmas
mod OrderLemmas
mod RangeLemmas
mod TableLemmas
