use Rattle.std.proofs.Common.{◌≡◌, ◌-◌}
use Rattle.apple_substitution.specs.ChainRuns.{chain_run, chain_work, source_of}
use Rattle.apple_substitution.specs.Metamorphosis.{chains_run}
use Rattle.apple_substitution.specs.declared.parts.TheConstants.{CHAIN}
use Rattle.apple_substitution.proofs.PartLemmas.{run_from}
use Rattle.apple_substitution.proofs.metamorphosis.run_chains.Given as goal

abbrev pub invariant-loop-i : goal.invariant-loop-i
invariant-loop-i l = record {
  made : run_from (chain_work (source_of l.table)) (chain_run (source_of l.table)) l.table.tables.morx.now CHAIN
      (l.count - l._i) l.at l.buffer
      ≡ chains_run (source_of l.table) l.count l.fn.buffer;
}
