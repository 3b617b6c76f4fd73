pub mod Unicode
pub mod Begun
pub mod Graphemes
pub mod Order
pub mod Fractions
pub mod Ranges
pub mod MaskSteps
