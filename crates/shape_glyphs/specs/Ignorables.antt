-- Default ignorables: their positions, and what is seen of them.
use Rattle.std.specs.Prelude.{pos, ◌==◌, ◌&&◌, not, Bool, Option, Some, None, if◌then◌else◌}
use Rattle.std.specs.Int.RustNames.{bit_and}
use Rattle.std.specs.Option.{option_or}
use Rattle.shape_items.specs.Buffer.{Buffer}
use Rattle.shape_items.specs.Delete.{deleted}
use Rattle.shape_common.specs.Face.{FaceMeaning}
use Rattle.shape_items.specs.Items.{Item, is_ignorable_item}
use Rattle.shape_buffer.specs.PositionWalks.{positions_mapped}
use Rattle.shape_buffer.specs.Walks.{items_mapped}
use Rattle.shape_common.specs.declared.positions.GlyphPosition.{GlyphPosition}
use Rattle.shape_common.specs.declared.text_types.GlyphId.{GlyphId}
use Rattle.shape_common.specs.FlagNames.{PRESERVE_DEFAULT_IGNORABLES, REMOVE_DEFAULT_IGNORABLES, HAS_DEFAULT_IGNORABLES}

-- the run has seen default ignorables (scratch flag 2)
abbrev pub has_ignorables : Buffer → Bool
has_ignorables b = bit_and b.scratch_flags.0 HAS_DEFAULT_IGNORABLES == HAS_DEFAULT_IGNORABLES

-- they stay visible (flag 8)
abbrev pub preserves_ignorables : Buffer → Bool
preserves_ignorables b = bit_and b.flags.0 PRESERVE_DEFAULT_IGNORABLES == PRESERVE_DEFAULT_IGNORABLES

-- they are hidden: some were seen, and they don't stay visible
abbrev pub hides_ignorables : Buffer → Bool
hides_ignorables b = has_ignorables b && not (preserves_ignorables b)

-- they are taken out (flag 16)
abbrev pub removes_ignorables : Buffer → Bool
removes_ignorables b = bit_and b.flags.0 REMOVE_DEFAULT_IGNORABLES == REMOVE_DEFAULT_IGNORABLES

-- the four values 0; what the glyph is attached to stays
abbrev pub without_values : GlyphPosition → GlyphPosition
without_values position = record position { x_advance = pos 0; y_advance = pos 0; x_offset = pos 0; y_offset = pos 0 }

abbrev pub zeroed_ignorable : Item → GlyphPosition → GlyphPosition
zeroed_ignorable item position = if is_ignorable_item item then without_values position else position

-- ignorables lose their values, unless they are preserved or removed
unfoldable pub ignorables_zeroed : Buffer → Buffer
ignorables_zeroed b =
    if hides_ignorables b && not (removes_ignorables b) then positions_mapped zeroed_ignorable b else b

-- what is seen of an ignorable: the buffer's invisible glyph, else the face's glyph of U+0020
abbrev pub unseen_glyph : FaceMeaning → Buffer → Option GlyphId
unseen_glyph face b = option_or b.invisible_glyph (face.nominal_glyph 0x20)

abbrev pub shown_as : GlyphId → Item → Item
shown_as glyph item = if is_ignorable_item item then record item { glyph_id = glyph.0 } else item

-- each ignorable takes the unseen glyph; they are deleted if there is none
abbrev pub replaced_or_deleted : Option GlyphId → Buffer → Buffer
replaced_or_deleted None = deleted is_ignorable_item
replaced_or_deleted (Some glyph) = items_mapped (shown_as glyph)

-- hiding: unless ignorables are preserved they are replaced, or deleted if that is asked for or no glyph can replace
-- them
unfoldable pub ignorables_hidden : FaceMeaning → Buffer → Buffer
ignorables_hidden face b =
    if hides_ignorables b then
    replaced_or_deleted (if removes_ignorables b then None else unseen_glyph face b) b
    else b
