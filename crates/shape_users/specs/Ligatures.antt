-- A small engine: one stage of substitution, by a single glyph and a ligature of two.
use Rattle.std.specs.Prelude.{ℕ, zero, suc, ◌+◌, ◌==◌, ◌&&◌, Bool, if◌then◌else◌, List, length, map, set, remove, slice_index_or}
use Rattle.shape_items.specs.Buffer.{Buffer}
use Rattle.shape_items.specs.BufferClusters.{merge_clusters}
use Rattle.shape_items.specs.Items.{Item, new_item}
use Rattle.shape_users.specs.declared.ligatures.substitution.TheConstants.{SINGLE, LIGATURE}

abbrev pub with_glyph : ℕ → Item → Item
with_glyph glyph item = record item { glyph_id = glyph }

-- the second glyph of the single substitution in place of the first
abbrev pub single : Item → Item
single item = if item.glyph_id == SINGLE.0 then with_glyph SINGLE.1 item else item

abbrev pub singled : Buffer → Buffer
singled b = record b { items = map single b.items }

-- the item at a place
abbrev pub nth_item : List Item → ℕ → Item
nth_item items i = slice_index_or items i (new_item 0 0)

-- the two glyphs of the ligature stand side by side from a place on
abbrev pub is_pair : List Item → ℕ → Bool
is_pair items i = ((nth_item items i).glyph_id == LIGATURE.0) && ((nth_item items (i + 1)).glyph_id == LIGATURE.1)

-- another glyph at a place
abbrev pub glyph_put : ℕ → ℕ → Buffer → Buffer
glyph_put i glyph b = record b { items = set b.items i (with_glyph glyph (nth_item b.items i)) }

-- an item taken out, with its position
abbrev pub taken_out : ℕ → Buffer → Buffer
taken_out i b = record b { items = remove b.items i; positions = remove b.positions i }

-- the ligature in place of the two from a place on, which are one cluster first
abbrev pub ligated_at : ℕ → Buffer → Buffer
ligated_at i b = if is_pair b.items i then taken_out (i + 1) (glyph_put i LIGATURE.2 (merge_clusters i (i + 2) b)) else b

-- the same at the first places, one after the other
abbrev pub ligated : ℕ → Buffer → Buffer
ligated zero b = b
ligated (suc i) b = ligated_at i (ligated i b)

-- single glyphs first, then ligatures
abbrev pub substituted : Buffer → Buffer
substituted b = ligated (length b.items) (singled b)
