-- Which glyphs a lookup sees (OpenType, "Lookup table", lookup flags).
use Rattle.std.specs.Prelude.{ℕ, Bool, List, ◌/◌, ◌&&◌, ◌||◌, not, nat_eq, nat_lt, slice_index_or, if◌then◌else◌}
use Rattle.std.specs.Int.RustNames.{bit_and}
use Rattle.shape_items.specs.Items.{Item, new_item, is_ignorable_item}
use Rattle.layout_tables.specs.Gdef.{mark_set_covers}
use Rattle.layout_matching.specs.declared.lookup.Lookup.{Lookup}

abbrev pub shares : ℕ → ℕ → Bool
shares a b = not (nat_eq (bit_and a b) 0)

-- the item at a place, a new one past the end
abbrev pub nth : List Item → ℕ → Item
nth items i = slice_index_or items i (new_item 0 0)

-- a mark out of the lookup's set (flag USE_MARK_FILTERING_SET, 16), or else of another class than the lookup's (the upper
-- byte of the flags)
abbrev pub is_mark_left_out : Lookup → Item → Bool
is_mark_left_out l item =
    if shares l.flags 16 then not (mark_set_covers l.gdef.now l.mark_set item.glyph_id)
    else (nat_lt 255 l.flags && not (nat_eq (l.flags / 256) item.properties.mark_attachment_class))

-- bases, ligatures or marks that the flags ignore (2, 4 and 8), and marks that are left out
abbrev pub is_skipped : Lookup → Item → Bool
is_skipped l item =
    shares (bit_and item.properties.glyph_class.0 l.flags) 14 || (shares item.properties.glyph_class.0 8 && is_mark_left_out l item)

-- ZWNJ is passed over by positioning, and around what is matched if the feature lets it
abbrev pub passes_zwnj : Lookup → Bool → Bool
passes_zwnj l is_input = l.positioning || (not is_input && l.auto_zwnj)

-- ZWJ is passed over around what is matched, and within it if the feature lets it
abbrev pub passes_zwj : Lookup → Bool → Bool
passes_zwj l is_input = not is_input || l.auto_zwj

-- which default ignorables are passed over
abbrev pub passes_ignorable : Lookup → Bool → Item → Bool
passes_ignorable l is_input item = (passes_zwnj l is_input || not item.properties.zwnj)
    && (passes_zwj l is_input || not item.properties.zwj) && (l.positioning || not item.properties.hidden)

-- a default ignorable that is passed over unless it is what is looked for; hidden ones by positioning alone
abbrev pub is_transparent : Lookup → Bool → Item → Bool
is_transparent l is_input item = is_ignorable_item item && (passes_zwnj l is_input || not item.properties.zwnj)
    && (passes_zwj l is_input || not item.properties.zwj) && (l.positioning || not item.properties.hidden)

-- the mask has the lookup on, and its flags don't skip the glyph
abbrev pub is_on : Lookup → Item → Bool
is_on l item = shares item.mask l.mask && not (is_skipped l item)

-- the syllable that a match stays in, 0 for any; positioning stays in none
abbrev pub syllable_of : Lookup → Item → ℕ
syllable_of l item = if l.per_syllable && not l.positioning then item.properties.syllable else 0
