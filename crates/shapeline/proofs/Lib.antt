mod WidthLemmas
mod PairLemmas
mod PlanLemmas
