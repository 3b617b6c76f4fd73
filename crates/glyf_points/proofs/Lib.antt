pub mod AxisLemmas
pub mod ComponentLemmas
pub mod FlagLemmas
pub mod PointLemmas
