use Rattle.std.proofs.Common.{refl}
use Rattle.syllables.specs.IndicGrammar.{indic_grammar}
use Rattle.syllables.specs.declared.indic.table.TheConstants.{COLUMNS, ROWS, KINDS}
use Rattle.syllables.proofs.TableLemmas.{machine-by}
use Rattle.syllables.proofs.IndicTable as table
use Rattle.syllables.proofs.indic.indic_machine.Goals as goal

pub returns-clause-machine : goal.returns-clause-machine
returns-clause-machine c =
    machine-by _ COLUMNS ROWS KINDS refl refl refl indic_grammar table.rests table.some table.start table.dead table.rows table.columns table.kinds
