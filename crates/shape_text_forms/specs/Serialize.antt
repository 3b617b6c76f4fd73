-- glyphs as text, as `hb-shape` writes them
use Rattle.std.specs.Prelude.{ℕ, ℤ, pos, List, [], ◌∷◌, ◌++◌, Bool, Option, Some, None, nat_lt, ◌==◌, ◌&&◌, ◌%◌, codes, if◌then◌else◌}
use Rattle.std.specs.Ordering.{int_eq}
use Rattle.std.specs.Fmt.{decimal, signed_decimal}
use Rattle.std.specs.Int.RustNames.{bit_and}
use Rattle.std.specs.Option.{option_map_or}
use Rattle.shape_items.specs.Items.{Item}
use Rattle.shape_common.specs.Face.{FaceMeaning}
use Rattle.shape_common.specs.Wrapping.{◌+ʷ◌}
use Rattle.shape_common.specs.declared.positions.GlyphPosition.{GlyphPosition}
use Rattle.shape_common.specs.declared.text_types.GlyphId.{GlyphId}
use Rattle.shape_common.specs.declared.face.hb_glyph_extents_t.{hb_glyph_extents_t}
use Rattle.shape_text_forms.specs.declared.content.Pen.{Pen}

-- what a text of glyphs depends on: what is asked for, the names of glyphs, their boxes
pub record Form : Type 0 where
  pub flags : ℕ
  pub name : ℕ → Option (List ℕ)
  pub extents : GlyphId → Option hb_glyph_extents_t

abbrev pub form_of : ℕ → (ℕ → Option (List ℕ)) → FaceMeaning → Form
form_of flags name face = record { flags = flags; name = name; extents = face.extents }

-- HarfBuzz's flags
abbrev pub NO_CLUSTERS : ℕ
NO_CLUSTERS = 1

abbrev pub NO_POSITIONS : ℕ
NO_POSITIONS = 2

abbrev pub NO_GLYPH_NAMES : ℕ
NO_GLYPH_NAMES = 4

abbrev pub GLYPH_EXTENTS : ℕ
GLYPH_EXTENTS = 8

abbrev pub GLYPH_FLAGS : ℕ
GLYPH_FLAGS = 16

abbrev pub NO_ADVANCES : ℕ
NO_ADVANCES = 32

abbrev pub asks : ℕ → ℕ → Bool
asks flag flags = nat_lt 0 (bit_and flags flag)

-- the glyph's name, `gid` and its number if it has none; its number alone if names aren't asked for
abbrev pub glyph_word : ℕ → (ℕ → Option (List ℕ)) → ℕ → List ℕ
glyph_word flags name glyph =
    if asks NO_GLYPH_NAMES flags then decimal glyph
    else option_map_or (λ bytes. bytes) (name glyph) (codes "gid" ++ decimal glyph)

-- `=` (61) and the cluster
abbrev pub cluster_word : ℕ → ℕ → List ℕ
cluster_word flags cluster = if asks NO_CLUSTERS flags then [] else 61 ∷ decimal cluster

-- two numbers with a comma (44)
abbrev pub pair_word : ℤ → ℤ → List ℕ
pair_word x y = signed_decimal x ++ 44 ∷ signed_decimal y

-- `@` (64) and where the glyph is moved to, if it is moved
abbrev pub offset_word : ℤ → ℤ → List ℕ
offset_word x y = if int_eq x (pos 0) && int_eq y (pos 0) then [] else 64 ∷ pair_word x y

-- `+` (43) and how far the pen moves on, upwards only if it does
abbrev pub advance_word : ℤ → ℤ → List ℕ
advance_word x y = 43 ∷ (if int_eq y (pos 0) then signed_decimal x else pair_word x y)

-- the pen counts if advances aren't written
abbrev pub position_word : ℕ → Pen → GlyphPosition → List ℕ
position_word flags pen p =
    if asks NO_POSITIONS flags then []
    else offset_word (pen.x +ʷ p.x_offset) (pen.y +ʷ p.y_offset)
    ++ (if asks NO_ADVANCES flags then [] else advance_word p.x_advance p.y_advance)

-- `#` (35) and the defined flags of the glyph, if it has any
abbrev pub flags_word : ℕ → ℕ → List ℕ
flags_word flags mask =
    if asks GLYPH_FLAGS flags && nat_lt 0 (mask % 8) then 35 ∷ decimal (mask % 8) else []

-- a box between `<` (60) and `>` (62): its left and upper sides, its width and height
abbrev pub corner_word : ℤ → ℤ → List ℕ
corner_word x y = 60 ∷ pair_word x y

abbrev pub size_word : ℤ → ℤ → List ℕ
size_word width height = 44 ∷ pair_word width height ++ 62 ∷ []

-- all zeros if the face knows none
abbrev pub box_word : Option hb_glyph_extents_t → List ℕ
box_word None = codes "<0,0,0,0>"
box_word (Some box) = corner_word box.x_bearing box.y_bearing ++ size_word box.width box.height

abbrev pub extents_word : ℕ → (GlyphId → Option hb_glyph_extents_t) → ℕ → List ℕ
extents_word flags extents glyph =
    if asks GLYPH_EXTENTS flags then box_word (extents (record { 0 = glyph })) else []

-- `[` (91) before the first glyph, `|` (124) before each other
abbrev pub separator : Bool → List ℕ
separator first = (if first then 91 else 124) ∷ []

-- all of a glyph, after its separator
abbrev pub entry_text : Form → Bool → Pen → Item → GlyphPosition → List ℕ
entry_text form first pen item p =
    separator first
    ++ glyph_word form.flags form.name item.glyph_id
    ++ cluster_word form.flags item.cluster
    ++ position_word form.flags pen p
    ++ flags_word form.flags item.mask
    ++ extents_word form.flags form.extents item.glyph_id

-- where the pen stands after a glyph: it moves only if advances aren't written
abbrev pub pen_after : ℕ → Pen → GlyphPosition → Pen
pen_after flags pen p =
    if asks NO_ADVANCES flags then record { x = pen.x +ʷ p.x_advance; y = pen.y +ʷ p.y_advance } else pen
