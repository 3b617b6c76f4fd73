use Rattle.std.proofs.Common.{◌+◌, List, drop, fold, ap, sym, ◌∙◌}
use Rattle.std.proofs.lemmas.List.{at_drop_more, drop_all}
use Rattle.arabic_fallback.specs.Classes.{class_by}
use Rattle.arabic_fallback.specs.Forms.{with_form}
use Rattle.arabic_fallback.specs.declared.forms.FormGlyphs.{FormGlyphs}
use Rattle.arabic_fallback.proofs.forms.form_rows.Goals as goal

pub loop-forms-preserved : goal.loop-forms-preserved
loop-forms-preserved g c =
    let face = g.F.hb_font_t.face c.args.face.now in
    let classes = class_by (g.M.hb_ot_layout_t.layout c.args.face.now).has_glyph_classes
    (g.M.hb_ot_layout_t.lookups c.args.map.now c.args.face.now).substitute_start in
    let add = with_form face classes c.args.form in
    let table = c.args.table.now in
    let i = c.loop-forms.forms-index in
    record {
      made = ap (λ (rows : List FormGlyphs). fold add rows (drop (i + 1) table)) c.in_ok-append.ensures.ok
          ∙ sym (at_drop_more (fold add c.loop-forms.rows.items) table i _ c.loop-forms-test.true) ∙ c.loop-forms.invariant.made;
    }

pub returns-clause-ok : goal.returns-clause-ok
returns-clause-ok g c =
    let face = g.F.hb_font_t.face c.args.face.now in
    let classes = class_by (g.M.hb_ot_layout_t.layout c.args.face.now).has_glyph_classes
    (g.M.hb_ot_layout_t.lookups c.args.map.now c.args.face.now).substitute_start in
    let none = drop_all c.loop-forms.forms-index c.args.table.now c.loop-forms-test.false in
    sym (ap (fold (with_form face classes c.args.form) c.loop-forms.rows.items) none) ∙ c.loop-forms.invariant.made
