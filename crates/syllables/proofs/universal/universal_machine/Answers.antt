use Rattle.std.proofs.Common.{refl}
use Rattle.syllables.specs.UniversalGrammar.{universal_grammar}
use Rattle.syllables.specs.declared.universal.table.TheConstants.{COLUMNS, ROWS, KINDS}
use Rattle.syllables.proofs.TableLemmas.{machine-by}
use Rattle.syllables.proofs.UniversalTable as table
use Rattle.syllables.proofs.universal.universal_machine.Goals as goal

pub returns-clause-machine : goal.returns-clause-machine
returns-clause-machine c =
    machine-by _ COLUMNS ROWS KINDS refl refl refl universal_grammar table.rests table.some table.start table.dead table.rows table.columns table.kinds
