use Rattle.std.proofs.Common.{rules, ◌≡◌, ◌<◌, ◌∙◌, Bool, false, List, take, length, get_or, ap, sym, refl, arith}
use Rattle.std.specs.List.{list_any}
use Rattle.std.proofs.lemmas.Grind.{common_steps}
use Rattle.std.proofs.lemmas.List.{get_or_default}
use Rattle.shape_items.specs.Items.{Item, new_item}
use Rattle.shape_buffer.specs.PositionWalks.{positions_mapped}
use Rattle.shape_common.specs.Positions.{zero_position}
use Rattle.shape_common.specs.declared.positions.GlyphPosition.{GlyphPosition}
use Rattle.shape_buffer.proofs.Loops.PositionWalkLemmas.{positions_over_more}
use Rattle.shape_buffer.proofs.Loops.PassingLemmas.{positions_passed}
use Rattle.shape_glyphs.specs.Zeroing.{is_mark_glyph, zeroed_mark}
use Rattle.shape_glyphs.proofs.zeroing.zero_marks.Goals as goal

-- the position of a glyph that is no mark stays
same : (adjust : Bool) (x : Item) (q : GlyphPosition) → is_mark_glyph x ≡ false → zeroed_mark adjust x q ≡ q
same adjust x q other = rw other refl

pub loop-i-init : goal.loop-i-init
loop-i-init c =
    let b = c.args.buffer.now in
    let first = c.passed_over-first.result in
    let many : length b.positions ≡ length b.items = grind (arith, common_steps) in
    let none : list_any is_mark_glyph (take first b.items) ≡ false =
    ap (λ (xs : List Item). list_any is_mark_glyph (take first xs)) (sym c.infos.ensures)
    ∙ c.passed_over-first.ensures.none is_mark_glyph (λ x y said. search rules) in
    let unchanged = positions_passed is_mark_glyph (zeroed_mark c.args.adjust) (same c.args.adjust) b.items b.positions first many none in
    record {
      same_length = refl;
      as_many_now = many;
      as_many = many;
      updated = ap (λ (ps : List GlyphPosition). record b { positions = ps }) (sym unchanged);
    }

pub loop-i-preserved : goal.loop-i-preserved
loop-i-preserved c =
    let b = c.loop-i.buffer in
    let i = c.loop-i.i in
    let kept = c.loop-i.invariant.updated in
    let now = c.loop-i.invariant.as_many_now in
    let within : i < length b.items = grind (arith, common_steps) in
    let placed : i < length b.positions = grind (arith, common_steps) in
    let x : Item = get_or b.items i (new_item 0 0) in
    let p : GlyphPosition = get_or b.positions i zero_position in
    let read : x ≡ get_or b.items i x = get_or_default b.items i (new_item 0 0) x within in
    let read_position : p ≡ get_or b.positions i p = get_or_default b.positions i zero_position p placed in
    let wrote = c.zero_mark_at.ensures x p read read_position in
    record {
      same_length = grind (arith, common_steps);
      as_many_now = grind (arith, common_steps);
      as_many = c.loop-i.invariant.as_many;
      updated = grind (arith, positions_over_more (zeroed_mark c.args.adjust));
    }

pub returns : goal.returns
unfolding positions_mapped
returns c =
    let kept = c.loop-i.invariant.updated in
    record { made = grind (arith, common_steps); no_longer = grind (arith, common_steps); same_limit = grind (arith, common_steps) }
