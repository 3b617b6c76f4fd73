use Rattle.shape_unicode.proofs.TableLemmas.{verticals_are_mapped, verticals_are_all}
use Rattle.shape_unicode.proofs.laws.verticals_are_of_the_database.Goals as goal

pub returns-clause-mapped : goal.returns-clause-mapped
returns-clause-mapped c = verticals_are_mapped

pub returns-clause-all : goal.returns-clause-all
returns-clause-all c = verticals_are_all
