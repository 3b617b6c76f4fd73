use Rattle.std.proofs.Common.{◌≡◌, ◌∙◌, ap, length, get_or}
use Rattle.shape_items.specs.Clusters.{clusters}
use Rattle.shape_items.specs.Items.{Item}
use Rattle.shape_lines.specs.TextOrder.{falls, place_in}
use Rattle.shape_lines.proofs.PieceLemmas.{cluster-listed}
use Rattle.shape_lines.proofs.reading.cluster_at.Goals as goal

pub returns : goal.returns
returns c =
    let items = c.glyph_infos-infos.ensures in
    ap (λ l. (get_or l c.listed.result c.index-infos-listed.result).cluster) items
    ∙ cluster-listed c.args.glyphs.now c.args.place _ c.index-infos-listed.result c.requires
    (c.listed.ensures ∙ ap (λ l. place_in (falls (clusters l)) (length l) c.args.place) items)
