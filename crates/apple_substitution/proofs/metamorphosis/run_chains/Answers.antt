use Rattle.std.proofs.Common.{◌-◌, sym, ◌∙◌}
use Rattle.apple_substitution.specs.ChainRuns.{Source, chain_run, chain_work, source_of}
use Rattle.apple_substitution.specs.declared.parts.TheConstants.{CHAIN}
use Rattle.apple_substitution.proofs.PartLemmas.{all_past, ended, next_run}
use Rattle.apple_substitution.proofs.metamorphosis.run_chains.Goals as goal

pub returns-then-is_end-clause-ok : goal.returns-then-is_end-clause-ok
returns-then-is_end-clause-ok c =
    let s : Source = source_of c.args.table.now in
    ended (chain_work s) (chain_run s) s.morx CHAIN (c.args.count - c.loop-i._i) c.loop-i.at c.flags_work-work.result
    c.loop-i.buffer _ c.loop-i.invariant.made c.flags_work-work.ensures (sym c.is_end.ensures.value ∙ c.if-is_end.true)

pub returns-in-Err-clause-length : goal.returns-in-Err-clause-length
returns-in-Err-clause-length c = λ refused.
    let s : Source = source_of c.args.table.now in
    all_past (chain_work s) (chain_run s) s.morx CHAIN c.args.count c.loop-i._i c.loop-i.at c.flags_work-work.result
    c.loop-i.buffer c.charge.new.buffer _ c.loop-i-test.true c.loop-i.invariant.made c.flags_work-work.ensures
    (sym c.is_end.ensures.value ∙ c.if-is_end.false) c.charge.ensures (c.in-Err.ensures.length refused)

pub loop-i-preserved : goal.loop-i-preserved
loop-i-preserved c =
    let s : Source = source_of c.args.table.now in record {
      made = next_run (chain_work s) (chain_run s) s.morx CHAIN c.args.count c.loop-i._i c.loop-i.at c.flags_work-work.result
          c.size_of-at.result c.loop-i.buffer c.charge.new.buffer c.run_chain.new.buffer _ c.loop-i-test.true c.loop-i.invariant.made
          c.flags_work-work.ensures (sym c.is_end.ensures.value ∙ c.if-is_end.false) c.charge.ensures c.in-Ok.ensures.ok c.size_of-at.ensures;
    }
