use Rattle.std.proofs.Common.{refl}
use Rattle.syllables.specs.MyanmarGrammar.{myanmar_grammar}
use Rattle.syllables.specs.declared.myanmar.table.TheConstants.{COLUMNS, ROWS, KINDS}
use Rattle.syllables.proofs.TableLemmas.{machine-by}
use Rattle.syllables.proofs.MyanmarTable as table
use Rattle.syllables.proofs.myanmar.myanmar_machine.Goals as goal

pub returns-clause-machine : goal.returns-clause-machine
returns-clause-machine c =
    machine-by _ COLUMNS ROWS KINDS refl refl refl myanmar_grammar table.rests table.some table.start table.dead table.rows table.columns table.kinds
