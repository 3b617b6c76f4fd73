mod FitRows
mod OutcomeRows
mod PartRows
mod PromiseRows
mod PremiseRows
mod RuleLemmas
