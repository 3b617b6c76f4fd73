use Rattle.std.proofs.Common.{◌+◌, List, drop, fold, ap, sym, ◌∙◌}
use Rattle.std.proofs.lemmas.List.{at_drop_more, drop_all}
use Rattle.arabic_fallback.specs.Classes.{class_by}
use Rattle.arabic_fallback.specs.Ligatures.{with_ligature}
use Rattle.arabic_fallback.specs.declared.ligatures.LigatureGlyphs.{LigatureGlyphs}
use Rattle.arabic_fallback.proofs.ligatures.ligature_rows.Goals as goal

pub loop-row-preserved : goal.loop-row-preserved
loop-row-preserved g c =
    let face = g.F.hb_font_t.face c.args.face.now in
    let classes = class_by (g.M.hb_ot_layout_t.layout c.args.face.now).has_glyph_classes
    (g.M.hb_ot_layout_t.lookups c.args.map.now c.args.face.now).substitute_start in
    let add = with_ligature face classes in
    let table = c.args.table.now in
    let i = c.loop-row.row-index in
    record {
      made = ap (λ (rows : List LigatureGlyphs). fold add rows (drop (i + 1) table)) c.in_ok-append.ensures.ok
          ∙ sym (at_drop_more (fold add c.loop-row.rows.items) table i _ c.loop-row-test.true) ∙ c.loop-row.invariant.made;
    }

pub returns-clause-ok : goal.returns-clause-ok
returns-clause-ok g c =
    let face = g.F.hb_font_t.face c.args.face.now in
    let classes = class_by (g.M.hb_ot_layout_t.layout c.args.face.now).has_glyph_classes
    (g.M.hb_ot_layout_t.lookups c.args.map.now c.args.face.now).substitute_start in
    let none = drop_all c.loop-row.row-index c.args.table.now c.loop-row-test.false in
    sym (ap (fold (with_ligature face classes) c.loop-row.rows.items) none) ∙ c.loop-row.invariant.made
