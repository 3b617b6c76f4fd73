-- Which glyphs are handed out and with which flags, computed on small cases whose answers are worked out by hand.
use Rattle.std.specs.Prelude.{◌≡◌, ℕ, pos, true, false, Option, Some, None, List, [], ◌∷◌, map, refl}
use Rattle.shape_items.specs.Buffer.{Buffer, new_buffer}
use Rattle.shape_items.specs.Clusters.{merge}
use Rattle.shape_items.specs.Delete.{delete_from}
use Rattle.shape_common.specs.Face.{FaceMeaning}
use Rattle.shape_items.specs.Flags.{flags_propagated}
use Rattle.shape_items.specs.Items.{Item}
use Rattle.shape_buffer.specs.PositionWalks.{positions_mapped}
use Rattle.shape_common.specs.Positions.{zero_position}
use Rattle.shape_buffer.specs.Walks.{items_mapped}
use Rattle.shape_common.specs.declared.positions.GlyphPosition.{GlyphPosition}
use Rattle.shape_common.specs.declared.text_types.GlyphId.{GlyphId}
use Rattle.shape_glyphs.specs.Ignorables.{ignorables_zeroed, ignorables_hidden}
use Rattle.shape_glyphs.specs.Selectors.{selectors_replaced}
use Rattle.shape_glyphs.specs.Worked.Positions.{at, glyph_at, face_of}

-- the face without a glyph for U+0020
abbrev without_space : FaceMeaning
without_space = record (face_of 1000) { nominal_glyph = λ _. None }

abbrev pub ignored : Item → Item
ignored item = record item { properties = record item.properties { ignorable = true } }

abbrev substituted : Item → Item
substituted item = record item { properties = record item.properties { substituted = true } }

abbrev pub selecting : Item → Item
selecting item = record item { properties = record item.properties { selector_mark = true } }

-- items with these flags of the buffer and scratch flags, each at a position of its own
abbrev text_of : List Item → List GlyphPosition → ℕ → ℕ → Buffer
text_of items positions flags scratch =
    record new_buffer { items = items; positions = positions; flags = record { 0 = flags }; scratch_flags = record { 0 = scratch } }

-- what is handed out: each glyph with its cluster
abbrev handed_out : Buffer → List (ℕ × ℕ)
handed_out b = map (λ item. (item.glyph_id, item.cluster)) b.items

abbrev a_at : ℕ → Item
a_at cluster = glyph_at 1 cluster

-- a joiner, whose glyph is 7 until it is hidden
abbrev joiner_at : ℕ → Item
joiner_at cluster = ignored (glyph_at 7 cluster)

abbrev wide : GlyphPosition
wide = record (at (pos 1) (pos 2) (pos 3) (pos 4)) { attach_chain = pos 5; attach_type = 6 }

abbrev emptied : GlyphPosition
emptied = record (at (pos 0) (pos 0) (pos 0) (pos 0)) { attach_chain = pos 5; attach_type = 6 }

abbrev zeroed : Item → ℕ → ℕ → List GlyphPosition
zeroed item flags scratch = (ignorables_zeroed (text_of (item ∷ []) (wide ∷ []) flags scratch)).positions

pub record ZeroingOfIgnorables : Type 0 where
  pub joiner : zeroed (joiner_at 0) 0 2 ≡ emptied ∷ []
  pub letter : zeroed (a_at 0) 0 2 ≡ wide ∷ []
  pub substituted_joiner : zeroed (substituted (joiner_at 0)) 0 2 ≡ wide ∷ []
  pub preserved : zeroed (joiner_at 0) 8 2 ≡ wide ∷ []
  pub removed : zeroed (joiner_at 0) 16 2 ≡ wide ∷ []
  pub unseen : zeroed (joiner_at 0) 0 61 ≡ wide ∷ []

zeroing_of_ignorables : ZeroingOfIgnorables
unfolding ignorables_zeroed positions_mapped
zeroing_of_ignorables = record { joiner = refl; letter = refl; substituted_joiner = refl; preserved = refl; removed = refl; unseen = refl }

abbrev hidden : FaceMeaning → List Item → ℕ → ℕ → List (ℕ × ℕ)
hidden face items flags scratch = handed_out (ignorables_hidden face (text_of items (map (λ _. zero_position) items) flags scratch))

-- the same with a glyph for what isn't seen
abbrev hidden_by : GlyphId → List Item → ℕ → List (ℕ × ℕ)
hidden_by glyph items flags =
    handed_out (ignorables_hidden (face_of 1000)
    (record (text_of items (map (λ _. zero_position) items) flags 2) { invisible_glyph = Some glyph }))

pub record HidingOfJoiners : Type 0 where
  pub by_space : hidden (face_of 1000) (a_at 0 ∷ joiner_at 1 ∷ []) 0 2 ≡ (1, 0) ∷ (3, 1) ∷ []
  pub by_invisible_glyph : hidden_by (record { 0 = 9 }) (a_at 0 ∷ joiner_at 1 ∷ []) 0 ≡ (1, 0) ∷ (9, 1) ∷ []
  pub after_goes : hidden without_space (a_at 0 ∷ joiner_at 1 ∷ []) 0 2 ≡ (1, 0) ∷ []
  pub first_goes : hidden without_space (joiner_at 0 ∷ a_at 3 ∷ []) 0 2 ≡ (1, 0) ∷ []
  -- the list of U+200C U+0061 once it is reversed
  pub last_goes : hidden without_space (a_at 3 ∷ joiner_at 0 ∷ []) 0 2 ≡ (1, 0) ∷ []
  pub all_go : hidden without_space (joiner_at 0 ∷ joiner_at 3 ∷ []) 0 2 ≡ []
  pub removed : hidden (face_of 1000) (a_at 0 ∷ joiner_at 1 ∷ []) 16 2 ≡ (1, 0) ∷ []
  pub removed_before_replaced : hidden_by (record { 0 = 9 }) (a_at 0 ∷ joiner_at 1 ∷ []) 16 ≡ (1, 0) ∷ []
  pub preserved : hidden (face_of 1000) (a_at 0 ∷ joiner_at 1 ∷ []) 8 2 ≡ (1, 0) ∷ (7, 1) ∷ []
  pub preserved_before_removed : hidden (face_of 1000) (a_at 0 ∷ joiner_at 1 ∷ []) 24 2 ≡ (1, 0) ∷ (7, 1) ∷ []
  pub substituted_joiner : hidden (face_of 1000) (a_at 0 ∷ substituted (joiner_at 1) ∷ []) 0 2 ≡ (1, 0) ∷ (7, 1) ∷ []
  pub unseen : hidden (face_of 1000) (a_at 0 ∷ joiner_at 1 ∷ []) 0 61 ≡ (1, 0) ∷ (7, 1) ∷ []

hiding_of_joiners : HidingOfJoiners
unfolding ignorables_hidden items_mapped delete_from merge
hiding_of_joiners = record {
  by_space = refl;
  by_invisible_glyph = refl;
  after_goes = refl;
  first_goes = refl;
  last_goes = refl;
  all_go = refl;
  removed = refl;
  removed_before_replaced = refl;
  preserved = refl;
  preserved_before_removed = refl;
  substituted_joiner = refl;
  unseen = refl;
}

abbrev selected : Option GlyphId → ℕ → Buffer
selected glyph scratch =
    selectors_replaced (record (text_of (a_at 0 ∷ selecting (glyph_at 8 0) ∷ [])
    (wide ∷ wide ∷ []) 0 scratch) { not_found_variation_selector_glyph = glyph })

pub record SelectorsWithoutVariant : Type 0 where
  pub glyphs : handed_out (selected (Some (record { 0 = 9 })) 16) ≡ (1, 0) ∷ (9, 0) ∷ []
  pub values : (selected (Some (record { 0 = 9 })) 16).positions ≡ wide ∷ emptied ∷ []
  pub mark_goes : map (λ (item : Item). item.properties.selector_mark) (selected (Some (record { 0 = 9 })) 16).items ≡ false ∷ false ∷ []
  pub no_glyph : selected None 16 ≡ text_of (a_at 0 ∷ selecting (glyph_at 8 0) ∷ []) (wide ∷ wide ∷ []) 0 16
  pub unseen : handed_out (selected (Some (record { 0 = 9 })) 47) ≡ (1, 0) ∷ (8, 0) ∷ []

selectors_without_variant : SelectorsWithoutVariant
unfolding selectors_replaced
selectors_without_variant = record { glyphs = refl; values = refl; mark_goes = refl; no_glyph = refl; unseen = refl }

abbrev flagged : ℕ → ℕ → Item
flagged mask cluster = record (glyph_at 1 cluster) { mask = mask }

-- the masks of items once flags are shared
abbrev shared : List Item → ℕ → ℕ → List ℕ
shared items flags scratch = map (λ (item : Item). item.mask) (flags_propagated (text_of items [] flags scratch)).items

pub record FlagsOfClusters : Type 0 where
  -- united, though unsafe to concat is asked for
  pub united : shared (flagged 1 0 ∷ flagged 0 0 ∷ []) 64 32 ≡ 1 ∷ 1 ∷ []
  pub tatweel : shared (flagged 4 0 ∷ flagged 0 0 ∷ []) 128 32 ≡ 5 ∷ 5 ∷ []
  pub tatweel_and_concat : shared (flagged 4 0 ∷ flagged 0 0 ∷ []) 192 32 ≡ 7 ∷ 7 ∷ []
  pub tatweel_unsafe : shared (flagged 4 0 ∷ flagged 1 0 ∷ []) 128 32 ≡ 1 ∷ 1 ∷ []
  pub tatweel_unasked : shared (flagged 4 0 ∷ flagged 1 0 ∷ []) 0 32 ≡ 5 ∷ 5 ∷ []
  pub tatweel_without : shared (flagged 2 0 ∷ flagged 0 0 ∷ []) 192 32 ≡ 2 ∷ 2 ∷ []
  pub concat_unasked : shared (flagged 3 0 ∷ flagged 2 1 ∷ []) 0 32 ≡ 1 ∷ 0 ∷ []
  pub concat_asked : shared (flagged 3 0 ∷ flagged 2 1 ∷ []) 64 32 ≡ 3 ∷ 2 ∷ []
  -- a cluster that comes again is another run
  pub runs : shared (flagged 1 0 ∷ flagged 2 1 ∷ flagged 4 0 ∷ flagged 0 0 ∷ []) 64 32 ≡ 1 ∷ 2 ∷ 4 ∷ 4 ∷ []
  -- nor do clusters beside each other share any: what one asks for or clears is its own
  pub apart : shared (flagged 1 0 ∷ flagged 0 1 ∷ flagged 2 2 ∷ []) 64 32 ≡ 1 ∷ 0 ∷ 2 ∷ []
  pub tatweel_apart : shared (flagged 1 0 ∷ flagged 4 1 ∷ flagged 0 2 ∷ []) 128 32 ≡ 1 ∷ 5 ∷ 0 ∷ []
  pub features_go : shared (flagged 0x101 0 ∷ flagged 0x200 0 ∷ []) 0 32 ≡ 1 ∷ 1 ∷ []
  pub unseen : shared (flagged 1 0 ∷ flagged 0x200 0 ∷ []) 0 31 ≡ 1 ∷ 0x200 ∷ []

flags_of_clusters : FlagsOfClusters
unfolding flags_propagated
flags_of_clusters = record {
  united = refl;
  tatweel = refl;
  tatweel_and_concat = refl;
  tatweel_unsafe = refl;
  tatweel_unasked = refl;
  tatweel_without = refl;
  concat_unasked = refl;
  concat_asked = refl;
  runs = refl;
  apart = refl;
  tatweel_apart = refl;
  features_go = refl;
  unseen = refl;
}

pub record WorkedGlyphs : Type 0 where
  pub zeroing : ZeroingOfIgnorables
  pub hiding : HidingOfJoiners
  pub selectors : SelectorsWithoutVariant
  pub flags : FlagsOfClusters

pub worked_glyphs : WorkedGlyphs
worked_glyphs =
    record { zeroing = zeroing_of_ignorables; hiding = hiding_of_joiners; selectors = selectors_without_variant; flags = flags_of_clusters }
