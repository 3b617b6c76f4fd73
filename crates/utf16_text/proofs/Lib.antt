pub mod BesideLemmas
pub mod UnitLemmas
mod WorkedRows
