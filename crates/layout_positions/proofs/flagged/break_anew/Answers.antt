use Rattle.std.proofs.Common.{slice_range, ap, ◌∙◌}
use Rattle.shape_items.specs.Clusters.{least_cluster}
use Rattle.layout_positions.proofs.FlaggedLemmas.{flagged_anew}
use Rattle.layout_positions.proofs.flagged.break_anew.Goals as goal

pub returns-clause-flagged : goal.returns-clause-flagged
returns-clause-flagged c =
    let least = c.least_cluster.ensures ∙ ap (λ xs. least_cluster (slice_range xs c.args.from c.args.to)) c.infos.ensures in
    flagged_anew c.args.from c.args.to c.least_cluster.result c.args.buffer.now c.unsafe_to_break.new.self c.requires.long
    c.requires.within c.unsafe_to_break.ensures.marked least
