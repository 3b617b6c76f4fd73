use Rattle.std.proofs.Common.{◌≡◌, ◌≤◌, ◌∙◌, sym, get_or, length}
use Rattle.std.specs.Prelude.{Some, None}
use Rattle.shape_fallback.proofs.SpacesLemmas.{first-found, first-skipped, first-none}
use Rattle.shape_fallback.proofs.ot_shape_fallback.spaces.first_glyph.Goals as goal

pub returns-in-Some : goal.returns-in-Some
returns-in-Some g c =
    let face = g.F.hb_font_t.face c.args.face.now in
    let here : c.c-item.result ≡ get_or c.args.characters.now c.loop-c.c-index c.c-item.result = cc in
    let has : face.nominal_glyph c.c-item.result ≡ Some c.in-Some.glyph = cc in
    sym (first-found face c.args.characters.now c.loop-c.c-index c.c-item.result c.in-Some.glyph c.loop-c-test.true here has)
    ∙ c.loop-c.invariant

pub loop-c-preserved : goal.loop-c-preserved
loop-c-preserved g c =
    let face = g.F.hb_font_t.face c.args.face.now in
    let here : c.c-item.result ≡ get_or c.args.characters.now c.loop-c.c-index c.c-item.result = cc in
    let has : face.nominal_glyph c.c-item.result ≡ None = cc in
    sym (first-skipped face c.args.characters.now c.loop-c.c-index c.c-item.result c.loop-c-test.true here has) ∙ c.loop-c.invariant

pub returns : goal.returns
returns g c =
    let over : length c.args.characters.now ≤ c.loop-c.c-index = c.loop-c-test.false in
    sym (first-none (g.F.hb_font_t.face c.args.face.now) c.args.characters.now c.loop-c.c-index over) ∙ c.loop-c.invariant
