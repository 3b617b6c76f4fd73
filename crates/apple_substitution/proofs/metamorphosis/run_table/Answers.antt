use Rattle.apple_substitution.specs.ChainRuns.{source_of}
use Rattle.apple_substitution.proofs.OutcomeLemmas.{morx-outcome}
use Rattle.apple_substitution.proofs.metamorphosis.run_table.Goals as goal

pub returns-clause-outcome : goal.returns-clause-outcome
returns-clause-outcome c = morx-outcome (source_of c.args.table.now) c.args.buffer.now c.run_all.new.buffer c.run_all.result
    c.run_all.ensures.ok c.run_all.ensures.within c.run_all.ensures.length
