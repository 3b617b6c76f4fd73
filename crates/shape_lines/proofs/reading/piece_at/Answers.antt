use Rattle.std.proofs.Common.{◌≡◌, ◌∙◌, ◌-◌, ◌==◌, ◌&&◌, not, true, sym, ap, length, get_or, to_z, of_z, arith, false, rules}
use Rattle.shape_items.specs.Clusters.{clusters}
use Rattle.shape_common.specs.FlagNames.{UNSAFE_TO_BREAK}
use Rattle.shape_items.specs.Items.{new_item}
use Rattle.shape_items.specs.PreservesFlags.{has_flag}
use Rattle.shape_lines.specs.Places.{cluster_at}
use Rattle.shape_lines.specs.TextOrder.{falls, place_in, text_order, width_of}
use Rattle.shape_lines.proofs.PieceLemmas.{piece, piece-listed}
use Rattle.shape_lines.proofs.reading.piece_at.Goals as goal
use mir.Syntax.{w64}

pub returns-then-begins_cluster-clause-value : goal.returns-then-begins_cluster-clause-value
returns-then-begins_cluster-clause-value c =
    let b = c.args.glyphs.now in
    let items = c.glyph_infos-infos.ensures in
    let wide : to_z w64 (of_z w64 c.width_at.result) ≡ c.width_at.result = search rules in
    let at = c.listed-at.ensures ∙ ap (λ l. place_in (falls (clusters l)) (length l) c.args.place) items in
    let x = c.index-infos-at.result in
    let safe = not (has_flag UNSAFE_TO_BREAK (get_or b.items c.listed-at.result x)) in
    let is_safe : not c.unsafe_to_break.result ≡ safe =
    ap not c.unsafe_to_break.ensures
    ∙ ap (λ y. not (has_flag UNSAFE_TO_BREAK y)) (c.index-infos-at.is ∙ ap (λ l. get_or l c.listed-at.result x) items) in
    piece-listed b c.args.place c.listed-at.result x _ _ _ _ c.width_at.ensures.as_many c.requires at
    (wide ∙ c.width_at.ensures.value)
    (is_safe ∙ ap (λ t. t && safe) (sym c.if-begins_cluster.true ∙ c.begins_cluster.ensures))

pub returns-else-begins_cluster-clause-value : goal.returns-else-begins_cluster-clause-value
returns-else-begins_cluster-clause-value c =
    let b = c.args.glyphs.now in
    let items = c.glyph_infos-infos.ensures in
    let wide : to_z w64 (of_z w64 c.width_at.result) ≡ c.width_at.result = search rules in
    let at = c.listed-at.ensures ∙ ap (λ l. place_in (falls (clusters l)) (length l) c.args.place) items in
    let safe = not (has_flag UNSAFE_TO_BREAK (get_or b.items c.listed-at.result (new_item 0 0))) in
    piece-listed b c.args.place c.listed-at.result (new_item 0 0) _ _ _ _ c.width_at.ensures.as_many c.requires at
    (wide ∙ c.width_at.ensures.value)
    (c.if-begins_cluster.false ∙ ap (λ t. t && safe) (sym c.if-begins_cluster.false ∙ c.begins_cluster.ensures))
