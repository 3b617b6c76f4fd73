-- Round one of normalising: each item becomes the items of its character's expansion, or takes a glyph with the
-- variation selector after it.
use Rattle.std.specs.Prelude.{ℕ, ◌+◌, ◌==◌, ◌<◌, ◌&&◌, not, Bool, true, false, if◌then◌else◌, List, [], ◌∷◌, ◌++◌, map, fold, replicate, length}
use Rattle.std.specs.Prelude.{Option, None, Some, is_some, unwrap_or}
use Rattle.std.specs.Option.{option_map, option_map_or, option_or}
use Rattle.std.specs.List.{flat_map, list_any}
use Rattle.std.specs.Int.RustNames.{bit_or}
use Rattle.shape_common.specs.Category.{is_space_category}
use Rattle.canonical_form.specs.Divided.{divided}
use Rattle.shape_items.specs.Items.{Item, is_mark_item}
use Rattle.shape_common.specs.Positions.{zero_position}
use Rattle.shape_items.specs.Spans.{all_merged}
use Rattle.shape_items.specs.Buffer.{Buffer, limit_of}
use Rattle.canonical_form.specs.Expansion.{chosen_expansion}
use Rattle.shape_common.specs.Face.{FaceMeaning}
use Rattle.shape_common.specs.Unicode.{UnicodeMeaning}
use Rattle.shape_common.specs.declared.flags.ScratchFlags.{ScratchFlags}
use Rattle.shape_common.specs.declared.text_types.GlyphId.{GlyphId}
use Rattle.shape_plan.specs.Rules.{Rules, decompositions, has_glyph}
use Rattle.shape_common.specs.FlagNames.{HAS_SPACE_FALLBACK, HAS_VARIATION_SELECTOR_FALLBACK}
use Rattle.shape_normalize.specs.Recast.{glyph_index, recast_to, seen_chars}

-- ---- the glyph of an item

-- the glyph that replaces a space: that of U+0020, else the buffer's invisible glyph
abbrev pub space_glyph : Rules → Option GlyphId → Option GlyphId
space_glyph rules invisible = option_or (rules.face.nominal_glyph 0x20) invisible

-- a space separator, by its own category, of a fallback type, if there is a glyph to replace it
abbrev pub is_fallback_space : Rules → Option GlyphId → Item → Bool
is_fallback_space rules invisible item =
    is_space_category item.properties.general_category && not (rules.unicode.space_fallback item.codepoint == 0)
    && is_some (space_glyph rules invisible)

-- the glyph of an item whose character has none: of a fallback space that of a space, of U+2011 that of U+2010, else 0
abbrev pub fallback_index : Rules → Option GlyphId → Item → ℕ
fallback_index rules invisible item =
    if is_fallback_space rules invisible item then unwrap_or (option_map (λ g. g.0) (space_glyph rules invisible)) 0
    else if item.codepoint == 0x2011 then glyph_index rules.face.nominal_glyph 0x2010
    else 0

-- the glyph of an item: that of its character, else what replaces it
abbrev pub item_glyph : Rules → Option GlyphId → Item → ℕ
item_glyph rules invisible item = option_map_or (λ g. g.0) (rules.face.nominal_glyph item.codepoint) (fallback_index rules invisible item)

-- ---- items that are expanded

-- the expansion of an item's character, if one is supported; `true` asks for the shortest
abbrev pub expansion_of : Rules → Bool → Item → Option (List ℕ)
expansion_of rules short item = chosen_expansion (decompositions rules) (has_glyph rules.face.nominal_glyph) short item.codepoint

-- a space separator without a glyph of its own, whose fallback type is remembered
abbrev pub remembers_space : Rules → Option GlyphId → Item → Bool
remembers_space rules invisible item = not (has_glyph rules.face.nominal_glyph item.codepoint) && is_fallback_space rules invisible item

-- an item that keeps its character, with its glyph
abbrev pub whole_item : Rules → Option GlyphId → Item → Item
whole_item rules invisible item =
    let kept : Item = record item { glyph_index = item_glyph rules invisible item } in
    if remembers_space rules invisible item
    then record kept { properties = record kept.properties { space_type = rules.unicode.space_fallback item.codepoint } }
    else kept

-- what an item becomes: the items of its expansion, itself if none is supported
abbrev pub emitted_for : Rules → Option GlyphId → Bool → Item → List Item
emitted_for rules invisible short item =
    option_map_or (map (recast_to rules.unicode rules.face.nominal_glyph item)) (expansion_of rules short item)
    (whole_item rules invisible item ∷ [])

-- scratch flags with "has space fallback"
abbrev pub with_space_fallback : ScratchFlags → ScratchFlags
with_space_fallback flags = record { 0 = bit_or flags.0 HAS_SPACE_FALLBACK }

-- the scratch flags once an item was expanded: its parts were seen, or its fallback type was remembered
abbrev pub seen_emitted : Rules → Option GlyphId → Bool → ScratchFlags → Item → ScratchFlags
seen_emitted rules invisible short flags item =
    option_map_or (seen_chars rules.unicode flags) (expansion_of rules short item)
    (if remembers_space rules invisible item then with_space_fallback flags else flags)

-- ---- sequences with variation selectors

abbrev pub is_selector_item : UnicodeMeaning → Item → Bool
is_selector_item unicode item = unicode.selector item.codepoint

-- an item that stays: it has the glyph of its character, or keeps the index that it had
abbrev pub skipped_item : (ℕ → Option GlyphId) → Item → Item
skipped_item glyph item = record item { glyph_index = option_map_or (λ g. g.0) (glyph item.codepoint) item.glyph_index }

-- a selector that the face has no glyph for with its item: it is marked, and no longer ignorable if the buffer has a
-- glyph for such selectors
abbrev pub marked_selector : Option GlyphId → Item → Item
marked_selector not_found item = record item {
  properties = record item.properties {
    selector_mark = true;
    ignorable = if is_some not_found then false else item.properties.ignorable;
  };
}

-- an item with the selectors directly after it: the item and the first of them become one item, if the face has a glyph
-- for the two
abbrev pub variant_items : FaceMeaning → Option GlyphId → List Item → List Item
variant_items face not_found [] = []
variant_items face not_found (x ∷ []) = skipped_item face.nominal_glyph x ∷ []
variant_items face not_found (x ∷ v ∷ rest) =
    let skipped = skipped_item face.nominal_glyph in
    elim (face.variation_glyph x.codepoint v.codepoint) [
      | Some g ↦ record x { glyph_index = g.0 } ∷ map skipped rest
      | None ↦ skipped x ∷ marked_selector not_found (skipped v) ∷ map skipped rest
    ]

-- scratch flags with "has variation selector fallback"
abbrev pub with_selector_fallback : ScratchFlags → ScratchFlags
with_selector_fallback flags = record { 0 = bit_or flags.0 HAS_VARIATION_SELECTOR_FALLBACK }

abbrev pub seen_variant : FaceMeaning → ScratchFlags → List Item → ScratchFlags
seen_variant face flags [] = flags
seen_variant face flags (x ∷ []) = flags
seen_variant face flags (x ∷ v ∷ rest) =
    if is_some (face.variation_glyph x.codepoint v.codepoint) then flags else with_selector_fallback flags

-- a sequence in parts: each item that is no selector, and the first of all, with the selectors directly after it
abbrev pub variants : UnicodeMeaning → List Item → List (List Item)
variants unicode sequence = divided (is_selector_item unicode) sequence

-- the glyph of the first two of these items, if the face has one for the two
abbrev pub variation_sequence_glyph : FaceMeaning → List Item → Option GlyphId
variation_sequence_glyph face [] = None
variation_sequence_glyph face (x ∷ []) = None
variation_sequence_glyph face (x ∷ v ∷ rest) = face.variation_glyph x.codepoint v.codepoint

-- the spans of the items that become one with the selector after them, two items each, in parts that begin at this
-- place
abbrev pub variation_sequence_spans : FaceMeaning → ℕ → List (List Item) → List (ℕ × ℕ)
variation_sequence_spans face place [] = []
variation_sequence_spans face place (part ∷ parts) =
    let later = variation_sequence_spans face (place + length part) parts in
    if is_some (variation_sequence_glyph face part) then (place, place + 2) ∷ later else later

-- ---- combining sequences (as those of The Unicode Standard, D56, but of marks alone; one item may be a sequence too)

-- an item with the marks directly after it; the first item of a list may be a mark itself
abbrev pub sequences : List Item → List (List Item)
sequences items = divided is_mark_item items

-- whether an item stands in a sequence with marks
abbrev pub is_with_marks : List Item → Bool
is_with_marks [] = false
is_with_marks (x ∷ []) = false
is_with_marks (x ∷ y ∷ rest) = true

-- a sequence that is not expanded: one with marks that holds a variation selector
abbrev pub is_selector_sequence : UnicodeMeaning → List Item → Bool
is_selector_sequence unicode sequence = is_with_marks sequence && list_any (is_selector_item unicode) sequence

-- the spans of the items that become one with the selector after them, in sequences that begin at this place
abbrev pub variation_sequences_from : UnicodeMeaning → FaceMeaning → ℕ → List (List Item) → List (ℕ × ℕ)
variation_sequences_from unicode face place [] = []
variation_sequences_from unicode face place (sequence ∷ rest) =
    let later = variation_sequences_from unicode face (place + length sequence) rest in
    if is_selector_sequence unicode sequence then variation_sequence_spans face place (variants unicode sequence) ++ later else later

-- ---- round one

-- what a sequence becomes
abbrev pub sequence_items : Rules → Option GlyphId → Option GlyphId → List Item → List Item
sequence_items rules invisible not_found sequence =
    if is_selector_sequence rules.unicode sequence then flat_map (variant_items rules.face not_found) (variants rules.unicode sequence)
    else flat_map (emitted_for rules invisible (rules.short (is_with_marks sequence))) sequence

abbrev pub seen_sequence : Rules → Option GlyphId → ScratchFlags → List Item → ScratchFlags
seen_sequence rules invisible flags sequence =
    if is_selector_sequence rules.unicode sequence then fold (seen_variant rules.face) flags (variants rules.unicode sequence)
    else fold (seen_emitted rules invisible (rules.short (is_with_marks sequence))) flags sequence

-- two items that become one are merged first, from left to right; that this is done before the walk changes nothing,
-- since the selector that goes is next to its item and in one cluster with it, so that a merge grows over both or
-- neither
abbrev pub variation_sequences_merged : Rules → Buffer → Buffer
variation_sequences_merged rules b = all_merged (variation_sequences_from rules.unicode rules.face 0 (sequences b.items)) b

-- what the items of a list become
abbrev pub expanded : Rules → Option GlyphId → Option GlyphId → List Item → List Item
expanded rules invisible not_found items = flat_map (sequence_items rules invisible not_found) (sequences items)

-- round one of normalising: the buffer with its expanded list, at positions of zeros
abbrev pub round_one : Rules → Buffer → Buffer
round_one rules b =
    let merged = variation_sequences_merged rules b in
    let items = expanded rules b.invisible_glyph b.not_found_variation_selector_glyph merged.items in
    record merged {
      items = items;
      positions = replicate (length items) zero_position;
      scratch_flags = fold (seen_sequence rules b.invisible_glyph) merged.scratch_flags (sequences merged.items);
    }

-- the expanded list would pass the buffer's limit
abbrev pub ExpandsPastLimit : Rules → Buffer → Type 0
ExpandsPastLimit rules b = limit_of b < length (round_one rules b).items
