-- Loops that write a list item by item.
pub mod WalkOverLemmas
pub mod PositionWalkLemmas
pub mod PassingLemmas
