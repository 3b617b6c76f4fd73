-- Canonical order: swaps, sorting, and runs that are settled.
pub mod SwapLemmas
pub mod OrderLemmas
pub mod SortLemmas
pub mod RunLemmas
