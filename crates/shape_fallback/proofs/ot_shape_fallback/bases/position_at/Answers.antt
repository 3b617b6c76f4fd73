use Rattle.std.proofs.Common.{◌≡◌, ◌<◌, ◌+◌, ◌∙◌, true, false, sym, get_or, drop, arith}
use Rattle.std.specs.List.{prefix_len}
use Rattle.std.proofs.lemmas.Grind.{common_steps}
use Rattle.shape_items.specs.Items.{is_mark_item}
use Rattle.shape_fallback.proofs.BasesLemmas.{at_mark, at_bare, at_base, marks_from_items}
use Rattle.shape_fallback.proofs.ot_shape_fallback.bases.position_at.Goals as goal

pub returns-then-hb_glyph_info_is_unicode_mark-clause-placed : goal.returns-then-hb_glyph_info_is_unicode_mark-clause-placed
returns-then-hb_glyph_info_is_unicode_mark-clause-placed g c =
    let item : c.index-infos-i.result ≡ get_or c.args.buffer.now.items c.args.i c.index-infos-i.result = cc in
    let mark : is_mark_item c.index-infos-i.result ≡ true = cc in
    sym (at_mark (g.F.hb_font_t.face c.args.face.now) c.args.frame c.args.i c.args.buffer.now c.index-infos-i.result c.requires item mark)

pub returns-then-marks-eq0-clause-placed : goal.returns-then-marks-eq0-clause-placed
returns-then-marks-eq0-clause-placed g c =
    let item : c.index-infos-i.result ≡ get_or c.args.buffer.now.items c.args.i c.index-infos-i.result = cc in
    let mark : is_mark_item c.index-infos-i.result ≡ false = cc in
    let count : c.marks_at_start-marks.result
    ≡ prefix_len is_mark_item (drop (c.args.i + 1) c.args.buffer.now.items) = grind (arith, common_steps) in
    let none : c.marks_at_start-marks.result ≡ 0 = omega arith in
    sym (at_bare (g.F.hb_font_t.face c.args.face.now) c.args.frame c.args.i c.marks_at_start-marks.result c.args.buffer.now c.index-infos-i.result c.requires item mark count none)

pub returns-clause-placed : goal.returns-clause-placed
returns-clause-placed g c =
    let item : c.index-infos-i.result ≡ get_or c.args.buffer.now.items c.args.i c.index-infos-i.result = cc in
    let mark : is_mark_item c.index-infos-i.result ≡ false = cc in
    let count : c.marks_at_start-marks.result
    ≡ prefix_len is_mark_item (drop (c.args.i + 1) c.args.buffer.now.items) = grind (arith, common_steps) in
    let some : 0 < c.marks_at_start-marks.result = omega arith in
    c.position_span.ensures
    ∙ sym (at_base (g.F.hb_font_t.face c.args.face.now) c.args.frame c.args.i c.marks_at_start-marks.result c.args.buffer.now c.index-infos-i.result c.requires item mark count some)

pub returns-clause-end : goal.returns-clause-end
returns-clause-end g c =
    let count : c.marks_at_start-marks.result
    ≡ prefix_len is_mark_item (drop (c.args.i + 1) c.args.buffer.now.items) = grind (arith, common_steps) in
    let same = marks_from_items (c.args.i + 1) c.args.buffer.now in
    omega (arith, count, same)
