-- Where the next component of a ligature stands (OpenType, "Lookup table", lookup flags; ZWJ is passed over, ZWNJ is not).
use Rattle.std.specs.Prelude.{ℕ, Bool, Option, Some, None, ◌+◌, ◌==◌, ◌&&◌, ◌||◌, not, nat_lt, List, length, drop, slice_index_or, if◌then◌else◌}
use Rattle.std.specs.List.{prefix_len}
use Rattle.std.specs.Option.{option_map}
use Rattle.shape_items.specs.Items.{Item, new_item, is_ignorable_item}
use Rattle.arabic_fallback.specs.Replaced.{shares}
use Rattle.arabic_fallback.specs.declared.seeking.Rule.{Rule}

-- the item at a place, a new one past the end
abbrev pub nth : List Item → ℕ → Item
nth items i = slice_index_or items i (new_item 0 0)

abbrev pub is_mark : Item → Bool
is_mark item = shares item.properties.glyph_class.0 8

-- marks, if the lookup passes over them
abbrev pub is_skipped : Rule → Item → Bool
is_skipped rule item = rule.ignores_marks && is_mark item

abbrev pub is_on : Rule → Item → Bool
is_on rule item = shares item.mask rule.mask && not (is_skipped rule item)

abbrev pub fits : Rule → ℕ → Item → Bool
fits rule glyph item = shares item.mask rule.mask && item.glyph_id == glyph

-- a default ignorable that is passed over unless it is what is looked for
abbrev pub passes : Item → Bool
passes item = is_ignorable_item item && not item.properties.zwnj && not item.properties.hidden

abbrev pub is_between : Rule → ℕ → Item → Bool
is_between rule glyph item = is_skipped rule item || (passes item && not (fits rule glyph item))

-- the first that may not stand between, if it is the glyph
abbrev pub place_in : Rule → ℕ → List Item → Option ℕ
place_in rule glyph rest =
    let passed = prefix_len (is_between rule glyph) rest in
    (if nat_lt passed (length rest) && fits rule glyph (nth rest passed) then Some passed else None)

-- from a place on
abbrev pub place_of : Rule → ℕ → List Item → ℕ → Option ℕ
place_of rule glyph items from = option_map (λ passed. from + passed) (place_in rule glyph (drop from items))

-- where the search ended that didn't find the glyph: after the first that may not stand between, or at the end of the text
abbrev pub stop_of : Rule → ℕ → List Item → ℕ → ℕ
stop_of rule glyph items from =
    let passed = prefix_len (is_between rule glyph) (drop from items) in
    (if nat_lt passed (length (drop from items)) then from + passed + 1 else length items)

-- marks on a component of a ligature join with marks on the same one; other glyphs with no mark on a component of another
-- ligature
abbrev pub joins : Item → Item → Bool
joins a b =
    if nat_lt 0 a.properties.ligature_id && nat_lt 0 a.properties.ligature_component
    then b.properties.ligature_id == a.properties.ligature_id && b.properties.ligature_component == a.properties.ligature_component
    else not (nat_lt 0 b.properties.ligature_id && nat_lt 0 b.properties.ligature_component
    && not (b.properties.ligature_id == a.properties.ligature_id))
