mod PageLemmas
mod StepLemmas
