use Rattle.std.proofs.Common.{◌≡◌, drop, fold}
use Rattle.arabic_fallback.specs.Classes.{class_by}
use Rattle.arabic_fallback.specs.Ligatures.{with_ligature, ligature_rows}
use Rattle.arabic_fallback.proofs.ligatures.ligature_rows.Given as goal

abbrev pub invariant-loop-row : goal.invariant-loop-row
invariant-loop-row g l =
    let face = g.F.hb_font_t.face l.face in
    let classes = class_by (g.M.hb_ot_layout_t.layout l.face).has_glyph_classes
    (g.M.hb_ot_layout_t.lookups l.map l.face).substitute_start in
    record { made : fold (with_ligature face classes) l.rows.items (drop l.row-index l.table) ≡ ligature_rows face classes l.table }
