-- The exact numbers of fallback positions, if all of them fit an i32.
use Rattle.std.specs.Prelude.{◌≡◌, ◌==◌, ℕ, ℤ, pos, negsuc, ◌<◌, ◌≤ℤ◌, ◌+ℤ◌, ◌-ℤ◌, ◌*ℤ◌, neg_ℤ, int_div, int_le, Bool, true, false, ◌&&◌, ◌||◌, not, if◌then◌else◌}
use Rattle.std.specs.Prelude.{FitsSigned}
use Rattle.std.specs.Int.{w32}
use Rattle.shape_common.specs.Face.{FaceMeaning}
use Rattle.shape_items.specs.Items.{Item}
use Rattle.shape_common.specs.declared.positions.GlyphPosition.{GlyphPosition}
use Rattle.shape_fallback.specs.Extents.{Extents}
use Rattle.shape_fallback.specs.MarkState.{component_of, place_of, component_extents, moved_past, moved}
use Rattle.shape_fallback.specs.Marks.{base_of, first_state, zeroed_position}
use Rattle.shape_fallback.specs.OneMark.{mark_x_offset, is_double, is_left, is_right, is_attached, agree, hung, piled, lowered, raised}
use Rattle.shape_fallback.specs.Spaces.{em_fraction, em_advance}
use Rattle.shape_fallback.specs.declared.ot_shape_fallback.mark_state.Base.{Base}
use Rattle.shape_fallback.specs.declared.ot_shape_fallback.mark_state.MarkState.{MarkState}
use Rattle.shape_fallback.specs.declared.ot_shape_fallback.marks.MarkFrame.{MarkFrame}
use Rattle.shape_fallback.specs.declared.ot_shape_fallback.one_mark.Stacked.{Stacked}

-- the number is one of i32
abbrev pub Fits32 : ℤ → Type 0
Fits32 z = FitsSigned w32 z

-- the x offset of a mark with extents E on a base with extents B
abbrev pub exact_x_offset : Bool → Bool → ℕ → Extents → Extents → ℤ
exact_x_offset horizontal forward ccc B E =
    if horizontal && is_double ccc then B.x_bearing +ℤ (if forward then B.width else pos 0) -ℤ int_div E.width (pos 2) -ℤ E.x_bearing
    else if is_left ccc then B.x_bearing -ℤ E.x_bearing
    else if is_right ccc then B.x_bearing +ℤ B.width -ℤ E.width -ℤ E.x_bearing
    else B.x_bearing +ℤ int_div (B.width -ℤ E.width) (pos 2) -ℤ E.x_bearing

-- the ccc of marks that are centred on the base
abbrev pub is_centred : Bool → ℕ → Bool
is_centred horizontal ccc = not ((horizontal && is_double ccc) || is_left ccc || is_right ccc)

-- the offset fits, and so does the margin of a centred mark, which is halved
pub record XOffsetFits (horizontal forward : Bool) (ccc : ℕ) (B E : Extents) : Type 0 where
  pub margin : is_centred horizontal ccc ≡ true → Fits32 (B.width -ℤ E.width)
  pub offset : Fits32 (exact_x_offset horizontal forward ccc B E)

-- how high a mark below comes to lie before it is kept from moving up
abbrev pub hung_at : Extents → Extents → ℤ
hung_at E B = B.y_bearing +ℤ B.height -ℤ E.y_bearing

abbrev pub exact_hung : ℤ → Extents → Extents → Stacked
exact_hung gap E B =
    if agree gap (hung_at E B) then record { y_offset = pos 0; base = record B { height = B.height -ℤ hung_at E B +ℤ E.height } }
    else record { y_offset = hung_at E B; base = record B { height = B.height +ℤ E.height } }

-- how high a mark above comes to lie before it is kept from moving down
abbrev pub piled_at : Extents → Extents → ℤ
piled_at E B = B.y_bearing -ℤ (E.y_bearing +ℤ E.height)

-- and half of the way back
abbrev pub pushed_up : Extents → Extents → ℤ
pushed_up E B = int_div (neg_ℤ (piled_at E B)) (pos 2)

abbrev pub exact_piled : ℤ → Extents → Extents → Stacked
exact_piled gap E B =
    if agree gap (piled_at E B) then record {
      y_offset = piled_at E B;
      base = record B { y_bearing = B.y_bearing -ℤ E.height; height = B.height +ℤ E.height };
    }
    else record {
      y_offset = piled_at E B +ℤ pushed_up E B;
      base = record B { y_bearing = B.y_bearing +ℤ pushed_up E B -ℤ E.height; height = B.height -ℤ pushed_up E B +ℤ E.height };
    }

-- what a stacked mark leaves fits
pub record StackedFits (s : Stacked) : Type 0 where
  pub y_offset : Fits32 s.y_offset
  pub y_bearing : Fits32 s.base.y_bearing
  pub height : Fits32 s.base.height

-- the component that a mark belongs to
abbrev pub exact_component : Base → Item → ℤ
exact_component base item =
    let component = pos item.properties.ligature_component -ℤ pos 1 in
    if base.ligature_id == 0 || not (base.ligature_id == item.properties.ligature_id)
    || int_le (pos base.number_of_components) component then
    pos base.number_of_components -ℤ pos 1
    else component

-- if all numbers round a base fit, they are the exact ones: the base's extents, the running offset at the first mark
-- and past each mark of ccc 0, and which component a mark belongs to, if the numbers of components fit a u8
pub record ExactRound : Type 0 where
  pub base_above : (face : FaceMeaning) (s : MarkFrame) (x : Item) (p : GlyphPosition) (E : Extents) → Fits32 (E.y_bearing +ℤ p.y_offset)
      → (base_of face s x p E).extents.y_bearing ≡ E.y_bearing +ℤ p.y_offset
  pub first_across : (base : Base) (p : GlyphPosition) → base.surroundings.forward ≡ true → Fits32 (neg_ℤ p.x_advance)
      → (first_state base p).x_offset ≡ neg_ℤ p.x_advance
  pub first_up : (base : Base) (p : GlyphPosition) → base.surroundings.forward ≡ true → Fits32 (neg_ℤ p.y_advance)
      → (first_state base p).y_offset ≡ neg_ℤ p.y_advance
  pub forward_across : (p : GlyphPosition) (s : MarkState) → Fits32 (s.x_offset -ℤ p.x_advance)
      → (moved_past true p s).x_offset ≡ s.x_offset -ℤ p.x_advance
  pub forward_up : (p : GlyphPosition) (s : MarkState) → Fits32 (s.y_offset -ℤ p.y_advance)
      → (moved_past true p s).y_offset ≡ s.y_offset -ℤ p.y_advance
  pub backward_across : (p : GlyphPosition) (s : MarkState) → Fits32 (s.x_offset +ℤ p.x_advance)
      → (moved_past false p s).x_offset ≡ s.x_offset +ℤ p.x_advance
  pub backward_up : (p : GlyphPosition) (s : MarkState) → Fits32 (s.y_offset +ℤ p.y_advance)
      → (moved_past false p s).y_offset ≡ s.y_offset +ℤ p.y_advance
  pub component : (base : Base) (x : Item) → base.number_of_components < 256 → x.properties.ligature_component < 256
      → component_of base x ≡ exact_component base x
  pub from_left : (base : Base) (c : ℤ) → base.left_to_right ≡ false → Fits32 (pos base.number_of_components -ℤ pos 1 -ℤ c)
      → place_of base c ≡ pos base.number_of_components -ℤ pos 1 -ℤ c

-- if all numbers of one mark fit, they are the exact ones
pub record ExactMarks : Type 0 where
  pub across : (horizontal forward : Bool) (ccc : ℕ) (B E : Extents) → XOffsetFits horizontal forward ccc B E
      → mark_x_offset horizontal forward ccc B E ≡ exact_x_offset horizontal forward ccc B E
  pub below : (gap : ℤ) (E B : Extents) → Fits32 (hung_at E B) → StackedFits (exact_hung gap E B) → hung gap E B ≡ exact_hung gap E B
  pub above : (gap : ℤ) (E B : Extents) → Fits32 (piled_at E B) → Fits32 (neg_ℤ (piled_at E B)) → StackedFits (exact_piled gap E B)
      → piled gap E B ≡ exact_piled gap E B
  pub gap_below : (gap : ℤ) (ccc : ℕ) (B : Extents) → is_attached ccc ≡ false → Fits32 (B.height -ℤ gap)
      → lowered gap ccc B ≡ record B { height = B.height -ℤ gap }
  pub gap_above : (gap : ℤ) (ccc : ℕ) (B : Extents) → is_attached ccc ≡ false → Fits32 (B.y_bearing +ℤ gap) → Fits32 (B.height -ℤ gap)
      → raised gap ccc B ≡ record B { y_bearing = B.y_bearing +ℤ gap; height = B.height -ℤ gap }
  pub moved_right : (p : GlyphPosition) (s : MarkState) → Fits32 (p.x_offset +ℤ s.x_offset)
      → (moved p s).x_offset ≡ p.x_offset +ℤ s.x_offset
  pub moved_up : (p : GlyphPosition) (s : MarkState) → Fits32 (p.y_offset +ℤ s.y_offset) → (moved p s).y_offset ≡ p.y_offset +ℤ s.y_offset
  pub zeroed_right : (p : GlyphPosition) → Fits32 (p.x_offset -ℤ p.x_advance)
      → (zeroed_position true p).x_offset ≡ p.x_offset -ℤ p.x_advance
  pub zeroed_up : (p : GlyphPosition) → Fits32 (p.y_offset -ℤ p.y_advance) → (zeroed_position true p).y_offset ≡ p.y_offset -ℤ p.y_advance
  pub component : (base : Base) (c : ℤ) → Fits32 (place_of base c *ℤ base.extents.width)
      → Fits32 (base.extents.x_bearing +ℤ int_div (place_of base c *ℤ base.extents.width) (pos base.number_of_components))
      → (component_extents base c).x_bearing
      ≡ base.extents.x_bearing +ℤ int_div (place_of base c *ℤ base.extents.width) (pos base.number_of_components)

-- a space's part of an em square always fits, unless the square is all of the least number: down a line it is the exact negative
pub record ExactSpaces : Type 0 where
  pub down : (side : ℤ) (t : ℕ) → negsuc 2147483646 ≤ℤ side → side ≤ℤ pos 2147483647 → 0 < t
      → em_advance false (em_fraction side t) ≡ neg_ℤ (em_fraction side t)
