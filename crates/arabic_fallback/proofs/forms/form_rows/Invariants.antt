use Rattle.std.proofs.Common.{◌≡◌, drop, fold}
use Rattle.arabic_fallback.specs.Classes.{class_by}
use Rattle.arabic_fallback.specs.Forms.{with_form, form_rows}
use Rattle.arabic_fallback.proofs.forms.form_rows.Given as goal

abbrev pub invariant-loop-forms : goal.invariant-loop-forms
invariant-loop-forms g l =
    let face = g.F.hb_font_t.face l.face in
    let classes = class_by (g.M.hb_ot_layout_t.layout l.face).has_glyph_classes
    (g.M.hb_ot_layout_t.lookups l.map l.face).substitute_start in
    record { made : fold (with_form face classes l.form) l.rows.items (drop l.forms-index l.table) ≡ form_rows face classes l.form l.table }
