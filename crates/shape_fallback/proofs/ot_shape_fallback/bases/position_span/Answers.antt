use Rattle.std.proofs.Common.{◌≡◌, ◌<◌, ◌∙◌, sym, get_or, length, arith}
use Rattle.std.specs.Prelude.{Some, None}
use Rattle.std.proofs.lemmas.Grind.{common_steps}
use Rattle.shape_common.specs.Positions.{zero_position}
use Rattle.shape_fallback.specs.Bases.{position_span}
use Rattle.shape_fallback.proofs.MarksLemmas.{span_some, span_none}
use Rattle.shape_fallback.proofs.ot_shape_fallback.bases.position_span.Goals as goal

pub returns-in-None : goal.returns-in-None
unfolding position_span
returns-in-None g c =
    let face = g.F.hb_font_t.face c.args.face.now in
    let b = c.unsafe_to_break.new.self in
    let lt : c.args.start < c.args.end = omega arith in
    let items : c.args.start < length b.items = grind (arith, common_steps) in
    let positions : c.args.start < length b.positions = grind (arith, common_steps) in
    let item : c.index-infos-start.result ≡ get_or b.items c.args.start c.index-infos-start.result = cc in
    let position : get_or c.positions.result.now c.args.start zero_position ≡ get_or b.positions c.args.start zero_position = cc in
    let known : face.extents (record { 0 = c.index-infos-start.result.glyph_id }) ≡ None = sym c.glyph_extents.ensures ∙ c.in-None.is in
    let span = span_none face c.args.frame c.args.start c.args.end b c.index-infos-start.result _ lt items positions item position known in
    cc

pub returns-in-Some : goal.returns-in-Some
unfolding position_span
returns-in-Some g c =
    let face = g.F.hb_font_t.face c.args.face.now in
    let b = c.unsafe_to_break.new.self in
    let lt : c.args.start < c.args.end = omega arith in
    let items : c.args.start < length b.items = grind (arith, common_steps) in
    let positions : c.args.start < length b.positions = grind (arith, common_steps) in
    let item : c.index-infos-start.result ≡ get_or b.items c.args.start c.index-infos-start.result = cc in
    let position : get_or c.positions.result.now c.args.start zero_position ≡ get_or b.positions c.args.start zero_position = cc in
    let known : face.extents (record { 0 = c.index-infos-start.result.glyph_id }) ≡ Some c.in-Some.extents = sym c.glyph_extents.ensures
    ∙ c.in-Some.is in
    let span = span_some face c.args.frame c.args.start c.args.end b c.index-infos-start.result _ c.in-Some.extents lt items positions item position known in
    cc
