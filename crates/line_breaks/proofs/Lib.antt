pub mod TextLemmas
pub mod BreakLemmas
pub mod RisingLemmas
