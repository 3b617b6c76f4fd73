use Rattle.syllables.proofs.ReadingLemmas.{vain-nowhere, scan-finds, scan-remembers}
use Rattle.syllables.proofs.laws.scans_find_syllables.Goals as goal

pub returns-clause-nowhere : goal.returns-clause-nowhere
returns-clause-nowhere c = vain-nowhere

pub returns-clause-found : goal.returns-clause-found
returns-clause-found c = scan-finds

pub returns-clause-remembered : goal.returns-clause-remembered
returns-clause-remembered c = scan-remembers
