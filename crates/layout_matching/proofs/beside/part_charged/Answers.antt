use Rattle.std.proofs.Common.{◌≡◌, Some, sym, ap, ◌∙◌}
use Rattle.shape_items.specs.Items.{Item}
use Rattle.layout_matching.specs.Found.{number_of}
use Rattle.layout_matching.specs.Skipping.{nth}
use Rattle.layout_matching.proofs.BesideLemmas.{part_begun}
use Rattle.layout_matching.proofs.beside.part_charged.Goals as goal

pub returns-in-Some-clause-left : goal.returns-in-Some-clause-left
returns-in-Some-clause-left c =
    let l = c.args.lookup.now in
    let items = c.args.items.now in
    let start = c.args.subtable.start in
    let some : number_of l.table.now start (nth items c.args.at).glyph_id ≡ Some c.in-Some._number =
    sym (c.in-Some.ensures ∙ ap (λ (x : Item). number_of l.table.now start x.glyph_id) c.item.ensures) in
    part_begun l items c.args.at c.args.left c.in-Some._number c.args.subtable c.begun_charged.result c.requires.positions c.requires.plain some
    c.begun_charged.ensures.left
