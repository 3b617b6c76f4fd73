mod ScriptLemmas
mod PlanLemmas
mod CutLemmas
mod RunTriesLemmas
mod SameWorkLemmas
mod EarlyWorkLemmas
mod WorkStaysLemmas
mod Hooks
