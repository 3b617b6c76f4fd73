use Rattle.std.proofs.Common.{◌≡◌, ◌-◌, suc, arith}
use Rattle.bidi.proofs.LineLemmas.{ended_all, ended_start, ended_step}
use Rattle.bidi.proofs.lines.line_levels.Goals as goal

pub loop-i-init : goal.loop-i-init
loop-i-init c = record {
  within = omega arith;
  done = ended_start c.args.base c.args.classes.now c.args.levels.now;
}

pub loop-i-preserved : goal.loop-i-preserved
loop-i-preserved c =
    let n = c.loop-i.i - 1 in
    let e : c.loop-i.i ≡ suc n = omega arith in
    record {
      within = omega arith;
      done = ended_step c.args.base n c.loop-i.i c.line_level.result c.args.classes.now c.args.levels.now c.loop-i.levels c.loop-i.ended c.ends_with-ended.result
          e (omega arith) (omega arith) (omega arith) c.loop-i.invariant.done c.ends_with-ended.ensures c.line_level.ensures;
    }

pub returns : goal.returns
returns c =
    ended_all c.args.base c.loop-i.i c.args.classes.now c.args.levels.now c.loop-i.levels c.loop-i.ended (omega arith) c.loop-i.invariant.done
