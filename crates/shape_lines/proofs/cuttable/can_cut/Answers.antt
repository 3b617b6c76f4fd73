use Rattle.std.proofs.Common.{◌∙◌, sym, ap, subst}
use Rattle.std.proofs.lemmas.Bool.{false≢true}
use Rattle.std.specs.List.{list_all}
use Rattle.std.specs.Prelude.{nat_lt, List}
use Rattle.shape_items.specs.Clusters.{clusters}
use Rattle.shape_items.specs.Flags.{HasOneSetOfFlags}
use Rattle.shape_items.specs.Items.{Item}
use Rattle.shape_lines.specs.CanCut.{IsMonotone}
use Rattle.shape_lines.proofs.NeighbourLemmas.{below_end}
use Rattle.shape_lines.proofs.cuttable.can_cut.Goals as goal
use Rattle.shape_lines.proofs.cuttable.can_cut.Goals.{then-is_monotone, else-is_monotone}

pub returns-then-has_one_set_of_flags : goal.returns-then-has_one_set_of_flags
returns-then-has_one_set_of_flags c =
    let are = c.glyph_infos-infos.ensures in
    let below = below_end c.args.glyphs.now.items c.args.text_end in
    let asked = c.is_below.ensures ∙ ap (λ (items : List Item). list_all (λ info. nat_lt info.cluster c.args.text_end) items) are in
    let both : IsMonotone (clusters c.args.glyphs.now.items) × HasOneSetOfFlags c.args.glyphs.now.items = elim c.if-is_monotone.branch [
      | then-is_monotone w ↦ (
        subst (λ (items : List Item). IsMonotone (clusters items)) are (c.is_monotone.ensures.0 w.if-is_monotone.true),
        subst HasOneSetOfFlags are (w.has_one_set_of_flags.ensures.0 (sym w.value-is ∙ c.if-has_one_set_of_flags.true)),
      )
      | else-is_monotone w ↦ absurd (false≢true (sym w.if-is_monotone.false ∙ (sym w.value-is ∙ c.if-has_one_set_of_flags.true)))
    ] in
    (λ yes. record { monotone = both.0; one_set = both.1; below = below.0 (sym asked ∙ yes) }, λ can. asked ∙ below.1 can.below)
