use Rattle.std.proofs.Common.{◌≡◌, ◌∙◌, rules, to_z, of_z, w32}
use Rattle.shape_common.specs.Wrapping.{◌-ʷ◌, -ʷ-exact}
use Rattle.shape_glyphs.specs.Advances.{glyph_of}
use Rattle.shape_glyphs.proofs.advances.vertical_position.Goals as goal

pub returns-clause-exact_x : goal.returns-clause-exact_x
returns-clause-exact_x g c = λ fits.
    let origin = (g.F.hb_font_t.face c.args.face.now).h_origin (glyph_of c.args.info.now) in
    let kept : to_z w32 (of_z w32 c.difference.result) ≡ c.args.position.x_offset -ʷ origin = search rules in
    kept ∙ -ʷ-exact c.args.position.x_offset origin fits

pub returns-clause-exact_y : goal.returns-clause-exact_y
returns-clause-exact_y g c = λ fits.
    let origin = (g.F.hb_font_t.face c.args.face.now).v_origin (glyph_of c.args.info.now) in
    let kept : to_z w32 (of_z w32 c.difference-2.result) ≡ c.args.position.y_offset -ʷ origin = search rules in
    kept ∙ -ʷ-exact c.args.position.y_offset origin fits
