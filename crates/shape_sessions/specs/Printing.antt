-- The lines that are printed for a text, as bytes.
use Rattle.std.specs.Prelude.{ℕ, ℤ, List, [], ◌∷◌, ◌++◌, ◌^◌, ◌-◌, true, false, codes}
use Rattle.std.specs.Fmt.{decimal, signed_decimal, digits, format_spec, padded_integral}
use Rattle.std.specs.Int.RustNames.{bit_and}
use Rattle.shape_items.specs.Items.{Item}
use Rattle.shape_common.specs.declared.positions.GlyphPosition.{GlyphPosition}

-- a space (32), the character in at least four hexadecimal digits, `@` (64) and its cluster
abbrev pub item_word : Item → List ℕ
item_word item =
    32 ∷ padded_integral (format_spec 32 0 4 4 (2 ^ 64 - 1)) false [] (digits 16 true item.codepoint) ++ 64 ∷ decimal item.cluster

-- a space, the glyph, `@` and its cluster
abbrev pub place_word : Item → List ℕ
place_word item = 32 ∷ decimal item.glyph_id ++ 64 ∷ decimal item.cluster

-- two numbers with a comma (44)
abbrev pub pair_word : ℤ → ℤ → List ℕ
pair_word x y = signed_decimal x ++ 44 ∷ signed_decimal y

-- its advances, after a bracket (40)
abbrev pub advances_word : GlyphPosition → List ℕ
advances_word p = 40 ∷ pair_word p.x_advance p.y_advance

-- its offsets, to a bracket (41)
abbrev pub offsets_word : GlyphPosition → List ℕ
offsets_word p = 44 ∷ pair_word p.x_offset p.y_offset ++ 41 ∷ []

-- `/` (47) and the defined flags
abbrev pub flags_word : ℕ → List ℕ
flags_word mask = 47 ∷ decimal (bit_and mask 7)

-- all of a glyph: its place, its position and its flags
abbrev pub glyph_word : Item → GlyphPosition → List ℕ
glyph_word item p =
    place_word item ++ advances_word p ++ offsets_word p ++ flags_word item.mask

-- items to the end of their line
abbrev pub items_from : List Item → List ℕ
items_from [] = 10 ∷ []
items_from (item ∷ items) = item_word item ++ items_from items

-- glyphs with their clusters to the end of their line
abbrev pub places_from : List Item → List ℕ
places_from [] = 10 ∷ []
places_from (item ∷ items) = place_word item ++ places_from items

-- glyphs to the end of their line
abbrev pub glyphs_from : List Item → List GlyphPosition → List ℕ
glyphs_from [] ps = 10 ∷ []
glyphs_from (item ∷ items) [] = 10 ∷ []
glyphs_from (item ∷ items) (p ∷ ps) = glyph_word item p ++ glyphs_from items ps

-- a name and the items
abbrev pub items_line : List ℕ → List Item → List ℕ
items_line name items = name ++ items_from items

-- the glyphs of a text
abbrev pub glyphs_line : List Item → List GlyphPosition → List ℕ
glyphs_line items ps = codes "glyphs" ++ glyphs_from items ps

-- a line of a text from one cluster up to another: its glyphs
abbrev pub text_line : ℕ → ℕ → List Item → List ℕ
text_line text_start text_end items =
    codes "line " ++ decimal text_start ++ 45 ∷ decimal text_end ++ places_from items
