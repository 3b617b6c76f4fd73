use Rattle.std.proofs.Common.{◌≡◌, ◌-◌, ◌<◌, ◌^◌}
use Rattle.apple_substitution.specs.ChainRuns.{subtable_work, subtables_run}
use Rattle.apple_substitution.specs.Subtables.{ran, source_of}
use Rattle.apple_substitution.specs.declared.parts.TheConstants.{SUBTABLE}
use Rattle.apple_substitution.proofs.PartLemmas.{run_from}
use Rattle.apple_substitution.proofs.chain_runs.run_subtables.Given as goal

abbrev pub invariant-loop-i : goal.invariant-loop-i
invariant-loop-i l = record {
  made : run_from (λ at. subtable_work (source_of l.chain)) (ran (source_of l.chain)) l.chain.tables.morx.now SUBTABLE
      (l.count - l._i) l.at l.buffer
      ≡ subtables_run (source_of l.chain) l.first l.count l.fn.buffer;
  near : l.at < 2 ^ 37;
  costs : l.work ≡ subtable_work (source_of l.chain);
}
