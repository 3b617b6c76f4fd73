use Rattle.std.proofs.Common.{◌+◌, ◌-◌, ap, ◌∙◌, length}
use Rattle.shape_items.specs.Buffer.{limit_of}
use Rattle.shape_items.proofs.Merging.KeyLemmas.{without_items-merge_clusters}
use Rattle.syllabic.proofs.MovingLemmas.{length-stepped_before, limit-stepped_before}
use Rattle.syllabic.proofs.moving.bring_before.Goals as goal

pub returns-clause-len : goal.returns-clause-len
returns-clause-len c =
    ap (λ b. length b.items) c.step_before.ensures
    ∙ length-stepped_before c.args.place (c.args.from - c.args.place) c.merge_clusters.new.self ∙ c.merge_clusters.ensures.len

pub returns-clause-limit : goal.returns-clause-limit
returns-clause-limit c =
    ap limit_of c.step_before.ensures ∙ limit-stepped_before c.args.place (c.args.from - c.args.place) c.merge_clusters.new.self
    ∙ ap limit_of c.merge_clusters.ensures.merged ∙ ap limit_of (without_items-merge_clusters c.args.place (c.args.from + 1) c.args.buffer.now)
