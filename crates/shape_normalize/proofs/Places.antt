-- Where each item of the normalised list came from.
mod OriginLemmas
mod StarterLemmas
mod PlaceLemmas
mod HookPlaceLemmas
mod FromTextLemmas
pub mod ByPlaceLemmas
pub mod WorkedOriginLemmas
