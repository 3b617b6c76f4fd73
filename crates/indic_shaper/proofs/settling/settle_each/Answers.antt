use Rattle.std.proofs.Common.{◌≡◌, ◌+◌, suc, ap, sym, ◌∙◌, arith}
use Rattle.syllabic.specs.Walking.{at_syllable, to_syllable}
use Rattle.indic_shaper.specs.Settling.Syllables.{settled_some}
use Rattle.indic_shaper.proofs.settling.settle_each.Goals as goal

pub loop-i-preserved : goal.loop-i-preserved
loop-i-preserved c =
    let does = settled_some c.args.facts.now in
    let next : c.loop-i.i + 1 ≡ suc c.loop-i.i = omega arith in
    let made : c.settle_at.new.buffer ≡ to_syllable does (suc c.loop-i.i) c.args.buffer.now
    = c.settle_at.ensures.made ∙ ap (at_syllable does c.loop-i.i) c.loop-i.invariant.made in
    record {
      made = made ∙ ap (λ n. to_syllable does n c.args.buffer.now) (sym next);
      len = c.settle_at.ensures.len ∙ c.loop-i.invariant.len;
      limit = c.settle_at.ensures.limit ∙ c.loop-i.invariant.limit;
    }
