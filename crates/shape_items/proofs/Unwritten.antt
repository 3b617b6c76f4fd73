-- Runs whose writing is put off.
pub mod WrittenLemmas
pub mod GivenLemmas
pub mod UnwrittenLemmas
