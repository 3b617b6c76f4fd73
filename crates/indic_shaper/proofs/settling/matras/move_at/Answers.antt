use Rattle.std.proofs.Common.{◌-◌, ap, ◌∙◌, arith, length}
use Rattle.shape_items.specs.Buffer.{limit_of}
use Rattle.shape_items.proofs.Merging.KeyLemmas.{without_items-merge_clusters}
use Rattle.syllabic.proofs.MovingLemmas.{length-stepped_after, limit-stepped_after}
use Rattle.indic_shaper.proofs.settling.matras.move_at.Goals as goal

pub merge_clusters-requires-clause-within : goal.merge_clusters-requires-clause-within
merge_clusters-requires-clause-within c =
    let kept = ap (λ b. length b.items) c.step_after.ensures
    ∙ length-stepped_after c.args.i (c.args.to - c.args.i) c.args.buffer.now in
    omega (arith, kept, c.requires.within)

pub returns-clause-len : goal.returns-clause-len
returns-clause-len c =
    c.merge_clusters.ensures.len ∙ ap (λ b. length b.items) c.step_after.ensures
    ∙ length-stepped_after c.args.i (c.args.to - c.args.i) c.args.buffer.now

pub returns-clause-limit : goal.returns-clause-limit
returns-clause-limit c =
    ap limit_of c.merge_clusters.ensures.merged
    ∙ ap limit_of (without_items-merge_clusters c.args.to c.args.until c.step_after.new.buffer)
    ∙ ap limit_of c.step_after.ensures ∙ limit-stepped_after c.args.i (c.args.to - c.args.i) c.args.buffer.now
