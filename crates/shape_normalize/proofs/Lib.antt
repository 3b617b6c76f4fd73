pub mod Hooks
mod RoundOne
mod RoundTwo
pub mod RoundThree
pub mod Normalized
pub mod Places
pub mod Form
mod FormRows
mod NotedRows
