-- Walks of a driver, ranges, subtables, chains, and substitution by the tables of a font, computed by hand.
pub mod Driving
pub mod Replacing
pub mod Rearranging
pub mod Contexts
pub mod Ligating
pub mod Inserting
pub mod Languages
pub mod Chaining
pub mod Running
pub mod Parts
pub mod Metamorphoses
pub mod Features
pub mod FeatureMaps
pub mod Substituting
