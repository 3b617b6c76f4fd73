-- Recomposing: the one induction on its walk, and what blocks.
pub mod RecomposeLemmas
pub mod RecomposeWalkLemmas
pub mod BlockLemmas
