use Rattle.std.proofs.Common.{◌-◌, sym, ◌∙◌, arith}
use Rattle.apple_substitution.specs.ChainRuns.{subtable_work}
use Rattle.apple_substitution.specs.Subtables as subtable_rules
use Rattle.apple_substitution.specs.Subtables.{ran, source_of}
use Rattle.apple_substitution.specs.declared.parts.TheConstants.{SUBTABLE}
use Rattle.apple_substitution.proofs.PartLemmas.{all_past, ended, next_run}
use Rattle.apple_substitution.proofs.chain_runs.run_subtables.Goals as goal

pub returns-then-is_end-clause-ok : goal.returns-then-is_end-clause-ok
returns-then-is_end-clause-ok c =
    let s : subtable_rules.Source = source_of c.args.chain.now in
    ended (λ at. subtable_work s) (ran s) s.morx SUBTABLE (c.args.count - c.loop-i._i) c.loop-i.at c.saturating_add-work.result
    c.loop-i.buffer _ c.loop-i.invariant.made c.loop-i.invariant.costs (sym c.is_end.ensures.value ∙ c.if-is_end.true)

pub returns-in-Err-clause-length : goal.returns-in-Err-clause-length
returns-in-Err-clause-length c = λ refused.
    let s : subtable_rules.Source = source_of c.args.chain.now in
    all_past (λ at. subtable_work s) (ran s) s.morx SUBTABLE c.args.count c.loop-i._i c.loop-i.at c.saturating_add-work.result
    c.loop-i.buffer c.charge.new.buffer _ c.loop-i-test.true c.loop-i.invariant.made c.loop-i.invariant.costs
    (sym c.is_end.ensures.value ∙ c.if-is_end.false) c.charge.ensures (c.in-Err.ensures.length refused)

pub loop-i-preserved : goal.loop-i-preserved
loop-i-preserved c =
    let s : subtable_rules.Source = source_of c.args.chain.now in record {
      made = next_run (λ at. subtable_work s) (ran s) s.morx SUBTABLE c.args.count c.loop-i._i c.loop-i.at c.saturating_add-work.result
          c.size_of.result c.loop-i.buffer c.charge.new.buffer c.run_subtable.new.buffer _ c.loop-i-test.true c.loop-i.invariant.made
          c.loop-i.invariant.costs (sym c.is_end.ensures.value ∙ c.if-is_end.false) c.charge.ensures c.in-Ok.ensures.ok c.size_of.ensures;
      near = omega (arith, c.is_end.ensures.end);
      costs = c.loop-i.invariant.costs;
    }
