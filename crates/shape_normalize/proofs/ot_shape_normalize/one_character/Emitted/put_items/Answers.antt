use Rattle.std.proofs.Common.{rules, arith}
use Rattle.shape_plan.specs.Rules.{rules_of}
use Rattle.shape_normalize.specs.RoundOne.{emitted_for}
use Rattle.shape_normalize.proofs.RoundOne.PieceLemmas.{passed_by_all}
use Rattle.shape_normalize.proofs.ot_shape_normalize.one_character.Emitted.put_items.Goals as goal

-- what the items up to this one become is a part of what all become
pub returns-in_err-put_item-clause-length : goal.returns-in_err-put_item-clause-length
returns-in_err-put_item-clause-length g c is_length =
    let shaper = g.T.Shaper.hb_ot_shaper_t in
    let planned = rules_of g.T.Unicode.hb_unicode_funcs_t.unicode shaper.constants shaper.hooks g.T.Face.hb_font_t.face c.args.plan.now c.args.face.now in
    rw (← c.items.invariant.limit, ← c.invisible_glyph-invisible.ensures)
    (passed_by_all (emitted_for planned c.invisible_glyph-invisible.result c.args.shortest) c.args.sequence.now
    c.items.info-index c.info-item.result c.args.self.now.infos.items _ c.items.self.limit (omega arith) c.info-item.is c.items.invariant.infos (c.in_err-put_item.ensures.length (search rules)))
