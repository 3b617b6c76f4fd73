-- glyphs as a list of JSON (RFC 8259), as `hb-shape` writes it
use Rattle.std.specs.Prelude.{ℕ, ℤ, pos, List, [], ◌∷◌, ◌++◌, Bool, Option, nat_lt, ◌&&◌, ◌%◌, codes, if◌then◌else◌}
use Rattle.std.specs.Fmt.{decimal, signed_decimal}
use Rattle.std.specs.Option.{option_map_or}
use Rattle.json.specs.Print.{quoted}
use Rattle.shape_items.specs.Items.{Item}
use Rattle.shape_common.specs.Wrapping.{◌+ʷ◌}
use Rattle.shape_common.specs.declared.positions.GlyphPosition.{GlyphPosition}
use Rattle.shape_common.specs.declared.text_types.GlyphId.{GlyphId}
use Rattle.shape_common.specs.declared.face.hb_glyph_extents_t.{hb_glyph_extents_t}
use Rattle.shape_text_forms.specs.Serialize.{Form, asks, NO_CLUSTERS, NO_POSITIONS, NO_GLYPH_NAMES, GLYPH_EXTENTS, GLYPH_FLAGS, NO_ADVANCES}
use Rattle.shape_text_forms.specs.declared.content.Pen.{Pen}

-- `,"` (44, 34), a member's name, `":` (34, 58) and its value
abbrev pub member : List ℕ → List ℕ → List ℕ
member name value = 44 ∷ 34 ∷ name ++ 34 ∷ 58 ∷ value

abbrev pub members : List ℕ → ℤ → List ℕ → ℤ → List ℕ
members one x other y = member one (signed_decimal x) ++ member other (signed_decimal y)

-- a glyph begins the list, or stands after a comma; its name or number comes first
abbrev pub opening : Bool → List ℕ
opening first = if first then codes "[{\"g\":" else codes ",{\"g\":"

-- the glyph's name as a string, `gid` and its number if it has none; its number alone if names aren't asked for
abbrev pub glyph_value : ℕ → (ℕ → Option (List ℕ)) → ℕ → List ℕ
glyph_value flags name glyph =
    if asks NO_GLYPH_NAMES flags then decimal glyph
    else quoted (option_map_or (λ bytes. bytes) (name glyph) (codes "gid" ++ decimal glyph))

abbrev pub cluster_member : ℕ → ℕ → List ℕ
cluster_member flags cluster = if asks NO_CLUSTERS flags then [] else member (codes "cl") (decimal cluster)

-- where the glyph is moved to, and how far the pen moves on; the pen counts if advances aren't written
abbrev pub position_members : ℕ → Pen → GlyphPosition → List ℕ
position_members flags pen p =
    if asks NO_POSITIONS flags then []
    else members (codes "dx") (pen.x +ʷ p.x_offset) (codes "dy") (pen.y +ʷ p.y_offset)
    ++ (if asks NO_ADVANCES flags then [] else members (codes "ax") p.x_advance (codes "ay") p.y_advance)

-- the defined flags of the glyph, if it has any
abbrev pub flags_member : ℕ → ℕ → List ℕ
flags_member flags mask =
    if asks GLYPH_FLAGS flags && nat_lt 0 (mask % 8) then member (codes "fl") (decimal (mask % 8)) else []

-- its box: left and upper sides, width and height; all zeros if the face knows none
abbrev pub no_box : hb_glyph_extents_t
no_box = record { x_bearing = pos 0; y_bearing = pos 0; width = pos 0; height = pos 0 }

abbrev pub box_members : hb_glyph_extents_t → List ℕ
box_members box = members (codes "xb") box.x_bearing (codes "yb") box.y_bearing
    ++ members (codes "w") box.width (codes "h") box.height

abbrev pub extents_members : ℕ → (GlyphId → Option hb_glyph_extents_t) → ℕ → List ℕ
extents_members flags extents glyph =
    if asks GLYPH_EXTENTS flags then box_members (option_map_or (λ box. box) (extents (record { 0 = glyph })) no_box) else []

-- all of a glyph; `}` (125) ends it
abbrev pub json_entry : Form → Bool → Pen → Item → GlyphPosition → List ℕ
json_entry form first pen item p =
    opening first
    ++ glyph_value form.flags form.name item.glyph_id
    ++ cluster_member form.flags item.cluster
    ++ position_members form.flags pen p
    ++ flags_member form.flags item.mask
    ++ extents_members form.flags form.extents item.glyph_id
    ++ 125 ∷ []
