use Rattle.std.proofs.Common.{rules, ◌∙◌}
use Rattle.syllables.specs.Grammar.{first_syllable}
use Rattle.syllables.specs.Machines.{by_table}
use Rattle.syllables.proofs.MachineLemmas.{table-is}
use Rattle.syllabic.proofs.ScanningLemmas.{numbered-same}
use Rattle.syllabic.proofs.scanning.number_syllables.Goals as goal

pub returns-clause-made : goal.returns-clause-made
returns-clause-made c = search rules

pub returns-clause-grammar : goal.returns-clause-grammar
returns-clause-grammar c = λ g is.
    let m = c.args.machine in
    let table = returns-clause-made c in
    record {
      made = table.made ∙ numbered-same (by_table m) (first_syllable g m.other) (table-is m g is) c.args.skipped c.args.buffer.now;
      no_longer = table.no_longer;
      same_limit = table.same_limit;
    }
