use Rattle.std.proofs.Common.{◌≡◌, ◌<◌, true, length, get_or, arith}
use Rattle.std.proofs.lemmas.Grind.{common_steps}
use Rattle.std.proofs.lemmas.List.{get_or_default}
use Rattle.shape_items.specs.Items.{Item, new_item}
use Rattle.shape_buffer.specs.PositionWalks.{positions_mapped}
use Rattle.shape_common.specs.Positions.{zero_position}
use Rattle.shape_common.specs.declared.positions.GlyphPosition.{GlyphPosition}
use Rattle.shape_buffer.proofs.Loops.PositionWalkLemmas.{positions_over_more}
use Rattle.shape_glyphs.specs.Advances.{advanced_position}
use Rattle.shape_glyphs.proofs.advances.put_h_advances.Goals as goal

pub loop-i-preserved : goal.loop-i-preserved
loop-i-preserved g c =
    let b = c.loop-i.buffer in
    let i = c.loop-i.i in
    let kept = c.loop-i.invariant.updated in
    let now = c.loop-i.invariant.as_many_now in
    let within : i < length b.items = grind (arith, common_steps) in
    let placed : i < length b.positions = grind (arith, common_steps) in
    let x : Item = get_or b.items i (new_item 0 0) in
    let p : GlyphPosition = get_or b.positions i zero_position in
    let read : x ≡ get_or b.items i x = get_or_default b.items i (new_item 0 0) x within in
    let read_position : p ≡ get_or b.positions i p = get_or_default b.positions i zero_position p placed in
    let wrote = c.put_h_advance.ensures x p read read_position in
    record {
      same_length = grind (arith, common_steps);
      as_many_now = grind (arith, common_steps);
      as_many = c.loop-i.invariant.as_many;
      updated = grind (arith, positions_over_more (advanced_position (g.F.hb_font_t.face c.args.face.now) true));
    }

pub returns : goal.returns
unfolding positions_mapped
returns g c =
    let kept = c.loop-i.invariant.updated in
    record { made = grind (arith, common_steps); no_longer = grind (arith, common_steps); same_limit = grind (arith, common_steps) }
