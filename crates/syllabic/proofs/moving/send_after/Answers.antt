use Rattle.std.proofs.Common.{◌+◌, ◌-◌, ap, ◌∙◌, length}
use Rattle.shape_items.specs.Buffer.{limit_of}
use Rattle.shape_items.proofs.Merging.KeyLemmas.{without_items-merge_clusters}
use Rattle.syllabic.proofs.MovingLemmas.{length-stepped_after, limit-stepped_after}
use Rattle.syllabic.proofs.moving.send_after.Goals as goal

pub returns-clause-len : goal.returns-clause-len
returns-clause-len c =
    ap (λ b. length b.items) c.step_after.ensures
    ∙ length-stepped_after c.args.place (c.args.to - c.args.place) c.merge_clusters.new.self ∙ c.merge_clusters.ensures.len

pub returns-clause-limit : goal.returns-clause-limit
returns-clause-limit c =
    ap limit_of c.step_after.ensures ∙ limit-stepped_after c.args.place (c.args.to - c.args.place) c.merge_clusters.new.self
    ∙ ap limit_of c.merge_clusters.ensures.merged ∙ ap limit_of (without_items-merge_clusters c.args.place (c.args.to + 1) c.args.buffer.now)
