-- Fallback spaces: how wide a space is that the face has no glyph for, by its remembered type.
use Rattle.std.specs.Prelude.{ℕ, ℤ, pos, ◌*ℤ◌, ◌/◌, ◌==◌, ◌||◌, ◌&&◌, not, nat_le, Bool, true, false, List, [], ◌∷◌, Option, None, if◌then◌else◌, int_div}
use Rattle.std.specs.Option.{option_map_or, option_or}
use Rattle.shape_items.specs.Buffer.{Buffer}
use Rattle.shape_common.specs.Category.{is_space_category}
use Rattle.shape_common.specs.Direction.{is_horizontal}
use Rattle.shape_common.specs.Face.{FaceMeaning}
use Rattle.shape_items.specs.Items.{Item}
use Rattle.shape_buffer.specs.PositionWalks.{positions_mapped}
use Rattle.shape_common.specs.Wrapping.{◌+ʷ◌, neg_w}
use Rattle.shape_common.specs.declared.positions.GlyphPosition.{GlyphPosition}
use Rattle.shape_common.specs.declared.text_types.GlyphId.{GlyphId}
use Rattle.shape_common.specs.declared.space_types.TheConstants.{SPACE_EM, SPACE_EM_6, SPACE_EM_16, SPACE_4_EM_18, SPACE_FIGURE, SPACE_PUNCTUATION}
use Rattle.shape_common.specs.declared.space_types.TheConstants.{SPACE_NARROW}

-- the types that are a part of the em square
unfoldable pub is_em_fraction : ℕ → Bool
is_em_fraction t = (nat_le SPACE_EM t && nat_le t SPACE_EM_6) || t == SPACE_EM_16 || t == SPACE_4_EM_18

-- how wide the em square is, or how high along vertical lines
abbrev pub em_side : FaceMeaning → Bool → ℤ
em_side face horizontal = if horizontal then face.x_scale else face.y_scale

-- how much of an em square of a side: four eighteenths, or the part that the type names, rounded
unfoldable pub em_fraction : ℤ → ℕ → ℤ
em_fraction side t = if t == SPACE_4_EM_18 then int_div (side *ℤ pos 4) (pos 18) else int_div (side +ʷ pos (t / 2)) (pos t)

-- vertical lines go down, so an advance along them is negative
unfoldable pub em_advance : Bool → ℤ → ℤ
em_advance horizontal n = if horizontal then n else neg_w n

-- the glyph of the first of some characters that has one
unfoldable pub first_glyph : FaceMeaning → List ℕ → Option GlyphId
first_glyph face [] = None
first_glyph face (c ∷ cs) = option_or (face.nominal_glyph c) (first_glyph face cs)

-- the digits 0 to 9, and the full stop before the comma
abbrev pub figures : List ℕ
figures = 0x30 ∷ 0x31 ∷ 0x32 ∷ 0x33 ∷ 0x34 ∷ 0x35 ∷ 0x36 ∷ 0x37 ∷ 0x38 ∷ 0x39 ∷ []

abbrev pub stops : List ℕ
stops = 0x2E ∷ 0x2C ∷ []

-- the advance of a glyph along the line
abbrev pub advance_along : FaceMeaning → Bool → GlyphId → ℤ
advance_along face horizontal glyph = if horizontal then face.h_advance glyph else face.v_advance glyph

-- as wide as the first of some characters that has a glyph; if none has, as wide as before
unfoldable pub as_wide_as : FaceMeaning → Bool → List ℕ → ℤ → ℤ
as_wide_as face horizontal cs before = option_map_or (advance_along face horizontal) (first_glyph face cs) before

-- the advance of a space of a type: a narrow one takes half of what it was, and other types keep theirs
unfoldable pub space_advance : FaceMeaning → Bool → ℕ → ℤ → ℤ
space_advance face horizontal t before =
    if is_em_fraction t then em_advance horizontal (em_fraction (em_side face horizontal) t)
    else if t == SPACE_FIGURE then as_wide_as face horizontal figures before
    else if t == SPACE_PUNCTUATION then as_wide_as face horizontal stops before
    else if t == SPACE_NARROW then int_div before (pos 2)
    else before

-- along the line alone
unfoldable pub space_positioned : FaceMeaning → Bool → ℕ → GlyphPosition → GlyphPosition
space_positioned face horizontal t p =
    if horizontal then record p { x_advance = space_advance face true t p.x_advance }
    else record p { y_advance = space_advance face false t p.y_advance }

-- a space separator that no lookup has made a part of a ligature
unfoldable pub is_lone_space : Item → Bool
is_lone_space item = is_space_category item.properties.general_category && not item.properties.ligated

unfoldable pub item_spaced : FaceMeaning → Bool → Item → GlyphPosition → GlyphPosition
item_spaced face horizontal item p =
    if is_lone_space item then space_positioned face horizontal item.properties.space_type p else p

-- every space of the buffer
unfoldable pub spaces_placed : FaceMeaning → Buffer → Buffer
spaces_placed face b = positions_mapped (item_spaced face (is_horizontal b.direction)) b
