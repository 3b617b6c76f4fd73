-- The base of a mark that begins a text.
use Rattle.std.specs.Prelude.{ℕ, Bool, true, false, ◌==◌, ◌&&◌, not, if◌then◌else◌, List, [], ◌∷◌, is_some}
use Rattle.std.specs.Int.RustNames.{bit_and}
use Rattle.canonical_form.specs.Expanded.{begins_with_mark}
use Rattle.shape_items.specs.Buffer.{Buffer}
use Rattle.shape_common.specs.Face.{FaceMeaning}
use Rattle.shape_items.specs.Items.{Item, new_item, is_mark_item}
use Rattle.shape_common.specs.Positions.{zero_position}
use Rattle.shape_common.specs.Unicode.{UnicodeMeaning}
use Rattle.shape_items.specs.UnicodeProps.{with_unicode_props, with_scratch_of}
use Rattle.shape_common.specs.FlagNames.{BEGINNING_OF_TEXT, DO_NOT_INSERT_DOTTED_CIRCLE}

abbrev pub is_empty : List ℕ → Bool
is_empty [] = true
is_empty (c ∷ cs) = false

-- a circle is put in if it isn't forbidden (32), nothing stands before the text, which begins here (2), and the face
-- has U+25CC
abbrev pub takes_circle : FaceMeaning → Buffer → Bool
takes_circle face b =
    not (bit_and b.flags.0 DO_NOT_INSERT_DOTTED_CIRCLE == DO_NOT_INSERT_DOTTED_CIRCLE)
    && bit_and b.flags.0 BEGINNING_OF_TEXT == BEGINNING_OF_TEXT && is_empty b.pre_context && is_some (face.nominal_glyph 0x25CC)

-- U+25CC with its own properties, and mask and cluster of the item that it goes before
abbrev pub circle_before : UnicodeMeaning → Item → Item
circle_before unicode item = record (with_unicode_props unicode (new_item 0x25CC item.cluster)) { mask = item.mask }

-- a circle before the first of these items
abbrev pub with_circle : UnicodeMeaning → List Item → Buffer → Buffer
with_circle unicode [] b = b
with_circle unicode (first ∷ rest) b = record b {
  items = circle_before unicode first ∷ b.items;
  positions = zero_position ∷ b.positions;
  scratch_flags = with_scratch_of unicode 0x25CC b.scratch_flags;
}

-- if the first item is a mark it gets a dotted circle before it
unfoldable pub dotted_circled : UnicodeMeaning → FaceMeaning → Buffer → Buffer
dotted_circled unicode face b = if takes_circle face b && begins_with_mark is_mark_item b.items then with_circle unicode b.items b else b
