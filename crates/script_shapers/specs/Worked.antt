pub mod ArabicPauses
pub mod ArabicRequests
pub mod Hangul
pub mod HebrewForms
pub mod HebrewPoints
pub mod Modifiers
pub mod Thai
pub mod ThaiForms
