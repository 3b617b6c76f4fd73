-- The marks of one base.
use Rattle.std.specs.Prelude.{pos, negsuc, Bool, List, [], ◌∷◌, Option, Some, None, if◌then◌else◌}
use Rattle.shape_common.specs.Face.{FaceMeaning}
use Rattle.shape_items.specs.Items.{Item}
use Rattle.shape_buffer.specs.PositionWalks.{positions_over}
use Rattle.shape_common.specs.Wrapping.{◌-ʷ◌, ◌+ʷ◌, neg_w}
use Rattle.shape_common.specs.declared.positions.GlyphPosition.{GlyphPosition}
use Rattle.shape_fallback.specs.Extents.{Extents}
use Rattle.shape_fallback.specs.MarkState.{place_mark}
use Rattle.shape_fallback.specs.Recategorized.{is_nonspacing}
use Rattle.shape_fallback.specs.declared.ot_shape_fallback.mark_state.Base.{Base}
use Rattle.shape_fallback.specs.declared.ot_shape_fallback.mark_state.MarkState.{MarkState}
use Rattle.shape_fallback.specs.declared.ot_shape_fallback.mark_state.TheConstants.{NO_LAST_CCC}
use Rattle.shape_fallback.specs.declared.ot_shape_fallback.marks.MarkFrame.{MarkFrame}

-- the positions of the marks of a base: each is placed in the state that the one before it leaves
unfoldable pub marks_placed : FaceMeaning → Base → MarkState → List Item → List GlyphPosition → List GlyphPosition
marks_placed face base s [] ps = ps
marks_placed face base s (x ∷ xs) [] = []
marks_placed face base s (x ∷ xs) (p ∷ ps) =
    let step = place_mark face base s x p in
    step.position ∷ marks_placed face base step.state xs ps

-- a position without its advances; the offsets lose them first if they are adjusted
unfoldable pub zeroed_position : Bool → GlyphPosition → GlyphPosition
zeroed_position adjust p =
    if adjust then record p {
      x_advance = pos 0;
      y_advance = pos 0;
      x_offset = p.x_offset -ʷ p.x_advance;
      y_offset = p.y_offset -ʷ p.y_advance;
    }
    else record p { x_advance = pos 0; y_advance = pos 0 }

-- a nonspacing mark loses its advances
unfoldable pub zeroed : Bool → Item → GlyphPosition → GlyphPosition
zeroed adjust x p = if is_nonspacing x then zeroed_position adjust p else p

-- a base with these extents of its glyph
unfoldable pub base_of : FaceMeaning → MarkFrame → Item → GlyphPosition → Extents → Base
base_of face s item p E = record {
  surroundings = s.surroundings;
  left_to_right = s.left_to_right;
  ligature_id = item.properties.ligature_id;
  number_of_components = item.properties.number_of_components;
  extents = record E {
    x_bearing = pos 0;
    y_bearing = E.y_bearing +ʷ p.y_offset;
    width = face.h_advance (record { 0 = item.glyph_id });
  };
}

-- the state at the first mark
unfoldable pub first_state : Base → GlyphPosition → MarkState
first_state base p = record {
  component = negsuc 0;
  component_extents = base.extents;
  ccc = NO_LAST_CCC;
  extents = base.extents;
  x_offset = if base.surroundings.forward then neg_w p.x_advance else pos 0;
  y_offset = if base.surroundings.forward then neg_w p.y_advance else pos 0;
}

-- the positions of the marks after a base, if the face has these extents for its glyph
abbrev pub after_base : FaceMeaning → MarkFrame → Item → GlyphPosition → Option Extents → List Item → List GlyphPosition → List GlyphPosition
after_base face s x p None xs ps = positions_over (zeroed s.adjust) xs ps
after_base face s x p (Some E) xs ps =
    let base = base_of face s x p E in
    marks_placed face base (first_state base p) xs ps

-- the positions of a base and its marks
unfoldable pub around_base : FaceMeaning → MarkFrame → List Item → List GlyphPosition → List GlyphPosition
around_base face s (x ∷ xs) (p ∷ ps) = p ∷ after_base face s x p (face.extents (record { 0 = x.glyph_id })) xs ps
around_base face s xs ps = ps
