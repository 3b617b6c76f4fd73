-- Placing the marks of a base, one after the other.
use Rattle.std.specs.Prelude.{ℕ, ℤ, pos, Bool, not, ◌==◌, ◌||◌, nat_lt, if◌then◌else◌, int_div, int_le}
use Rattle.std.specs.Ordering.{int_eq}
use Rattle.shape_items.specs.Items.{Item}
use Rattle.shape_common.specs.declared.positions.GlyphPosition.{GlyphPosition}
use Rattle.shape_common.specs.Wrapping.{◌+ʷ◌, ◌-ʷ◌, ◌*ʷ◌}
use Rattle.shape_fallback.specs.Extents.{Extents}
use Rattle.shape_common.specs.Face.{FaceMeaning}
use Rattle.shape_fallback.specs.OneMark.{mark_placed}
use Rattle.shape_fallback.specs.declared.ot_shape_fallback.mark_state.Base.{Base}
use Rattle.shape_fallback.specs.declared.ot_shape_fallback.mark_state.MarkState.{MarkState}
use Rattle.shape_fallback.specs.declared.ot_shape_fallback.mark_state.MarkStep.{MarkStep}
use Rattle.shape_fallback.specs.declared.ot_shape_fallback.mark_state.TheConstants.{NO_LAST_CCC}

-- the component of the base that a mark belongs to: the last one if it isn't one of this ligature's
unfoldable pub component_of : Base → Item → ℤ
component_of base item =
    let component = pos item.properties.ligature_component -ʷ pos 1 in
    if base.ligature_id == 0 || not (base.ligature_id == item.properties.ligature_id)
    || int_le (pos base.number_of_components) component then
    pos base.number_of_components -ʷ pos 1
    else component

-- which part of the base a component is, counted from the left
unfoldable pub place_of : Base → ℤ → ℤ
place_of base component =
    if base.left_to_right then component else pos base.number_of_components -ʷ pos 1 -ʷ component

-- the extents of a component
unfoldable pub component_extents : Base → ℤ → Extents
component_extents base component = record base.extents {
  x_bearing = base.extents.x_bearing +ʷ int_div (place_of base component *ʷ base.extents.width) (pos base.number_of_components);
  width = int_div base.extents.width (pos base.number_of_components);
}

-- the state at the component of a mark: a new one begins with its own extents, and the ccc rule starts anew
unfoldable pub at_component : Base → Item → MarkState → MarkState
at_component base item s =
    let component = component_of base item in
    if int_eq component s.component then s
    else record s { component = component; component_extents = component_extents base component; ccc = NO_LAST_CCC }

-- the same, if the base has several components
unfoldable pub with_component : Base → Item → MarkState → MarkState
with_component base item s = if nat_lt 1 base.number_of_components then at_component base item s else s

-- the state at a ccc: a new ccc begins with the component's extents
unfoldable pub at_ccc : ℕ → MarkState → MarkState
at_ccc ccc s = if ccc == s.ccc then s else record s { ccc = ccc; extents = s.component_extents }

-- the state past a mark without a ccc
unfoldable pub moved_past : Bool → GlyphPosition → MarkState → MarkState
moved_past forward p s =
    if forward then record s { x_offset = s.x_offset -ʷ p.x_advance; y_offset = s.y_offset -ʷ p.y_advance }
    else record s { x_offset = s.x_offset +ʷ p.x_advance; y_offset = s.y_offset +ʷ p.y_advance }

-- a position without advances, moved by the running offset
unfoldable pub moved : GlyphPosition → MarkState → GlyphPosition
moved p s = record p {
  x_advance = pos 0;
  y_advance = pos 0;
  x_offset = p.x_offset +ʷ s.x_offset;
  y_offset = p.y_offset +ʷ s.y_offset;
}

-- a mark of a ccc in the state that it is placed in
unfoldable pub place_in : FaceMeaning → Base → MarkState → Item → GlyphPosition → MarkStep
place_in face base s item p =
    let there = mark_placed base.surroundings (face.extents (record { 0 = item.glyph_id })) item.properties.modified_ccc
    (record { position = p; base = s.extents }) in
    record { position = moved there.position s; state = record s { extents = there.base } }

-- a mark of a base
unfoldable pub place_mark : FaceMeaning → Base → MarkState → Item → GlyphPosition → MarkStep
place_mark face base s item p =
    if item.properties.modified_ccc == 0 then record { position = p; state = moved_past base.surroundings.forward p s }
    else place_in face base (at_ccc item.properties.modified_ccc (with_component base item s)) item p
