-- Round two: runs of marks, the spans that their order moves, and each CGJ.
pub mod RunsLemmas
pub mod SpanLemmas
pub mod RunMarkLemmas
pub mod InOrderLemmas
pub mod RunWalkLemmas
pub mod SettleLemmas
pub mod OrderedLemmas
pub mod RunClusterLemmas
pub mod OrderedClusterLemmas
pub mod CgjLemmas
pub mod ByClusterLemmas
pub mod StretchLemmas
pub mod MergeFirstLemmas
pub mod SpanOrderLemmas
pub mod MovedSpanLemmas
pub mod SpansAheadLemmas
pub mod NotedLemmas
