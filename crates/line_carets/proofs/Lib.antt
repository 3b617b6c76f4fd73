pub mod SettledLemmas
mod StopLemmas
