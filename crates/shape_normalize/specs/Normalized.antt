-- The normalised list.
use Rattle.std.specs.Prelude.{◌≡◌, ◌⊎◌, ◌&&◌, ℕ, Bool, true, false, if◌then◌else◌, List, map, filter, flat_map, All, Contains, Option, None, Some, is_some}
use Rattle.shape_items.specs.Buffer.{Buffer}
use Rattle.shape_items.specs.Clusters.{clusters}
use Rattle.shape_items.specs.ClusterOrder.{PreservesClusters, IsMonotoneLevel}
use Rattle.shape_items.specs.Items.{Item, ccc_of_item, feature_bits}
use Rattle.shape_items.specs.UnicodeProps.{is_hidden_char}
use Rattle.shape_common.specs.declared.text_types.GlyphId.{GlyphId}
use Rattle.canonical_form.specs.Runs.{HasNoLongerRun}
use Rattle.shape_plan.specs.Reorder.{IsRunInOrder}
use Rattle.shape_plan.specs.Rules.{Rules, has_glyph}
use Rattle.shape_normalize.specs.RoundOne.{round_one, item_glyph, sequences, sequence_items, is_selector_sequence, variation_sequences_merged}
use Rattle.shape_normalize.specs.RoundThree.{recomposed_items, recomposed_by_last, with_put_out, round_three}
use Rattle.shape_normalize.specs.RoundTwo.{max_run, has_mark_past_first, has_seen_cgj, marks_ordered, cgj_unhidden_where_seen, OrdersMarks}

-- the buffer with its expanded list, with its marks in order if a mark stood past the first item as normalising began,
-- and with each CGJ unhidden that keeps nothing apart
abbrev pub ordered : Rules → Buffer → Buffer
ordered rules b =
    let expanded = round_one rules b in
    cgj_unhidden_where_seen (if has_mark_past_first b.items then marks_ordered rules.reorder expanded else expanded)

-- the buffer with its normalised list: the ordered one, recomposed in the modes that compose, if a mark stood past the
-- first item
abbrev pub normalized : Rules → Buffer → Buffer
normalized rules b = if has_mark_past_first b.items && rules.recomposes then round_three rules (ordered rules b) else ordered rules b

-- each character that isn't among those before has a glyph
abbrev pub BroughtInHaveGlyphs : (ℕ → Option GlyphId) → List ℕ → List ℕ → Type 0
BroughtInHaveGlyphs glyph before after = All (λ c. (has_glyph glyph c ≡ true) ⊎ Contains before c) after

-- the reorder hook preserves clusters at the monotone levels, if one is given: each of its calls, over a run in order,
-- keeps their order and brings no new one
abbrev pub HookPreservesClusters : Rules → Type 0
HookPreservesClusters rules =
    (reorder : Buffer → ℕ → ℕ → Buffer) → rules.reorder ≡ Some reorder
    → (b : Buffer) (start end : ℕ) → IsMonotoneLevel b.cluster_level → IsRunInOrder b.items start end
    → PreservesClusters (clusters b.items) (clusters (reorder b start end).items)

-- what the sequences that hold a variation selector become in round one
abbrev pub selector_items : Rules → Buffer → List Item
selector_items rules b =
    flat_map (sequence_items rules b.invisible_glyph b.not_found_variation_selector_glyph)
    (filter (is_selector_sequence rules.unicode) (sequences (variation_sequences_merged rules b).items))

-- an item except for its cluster, its mask, its hidden bit and the glyph that its index becomes, which later
-- steps change, and its ccc if a reorder hook is given, which may set that
abbrev pub content : Rules → Item → Item
content rules item = record item {
  cluster = 0;
  mask = 0;
  glyph_id = 0;
  properties = record item.properties { hidden = false; modified_ccc = if is_some rules.reorder then 0 else ccc_of_item item };
}

-- each item has the glyph of its character, or what replaces it, except for those that come from sequences with a
-- variation selector
abbrev pub HasItemGlyph : Rules → Buffer → Item → Type 0
HasItemGlyph rules old item =
    (item.glyph_index ≡ item_glyph rules old.invisible_glyph item)
    ⊎ Contains (map (content rules) (selector_items rules old)) (content rules item)

-- the marks of the expanded list were put in order: swaps reach the ordered list, in which each run of at most 32 is in
-- canonical order; in the modes that don't compose it is the new list
pub record OrdersExpanded (rules : Rules) (old new : Buffer) : Type 0 where
  pub ordered_list : has_mark_past_first old.items ≡ true → rules.reorder ≡ None
      → OrdersMarks (round_one rules old).items (ordered rules old).items
  pub new_list : has_mark_past_first old.items ≡ true → rules.reorder ≡ None → rules.recomposes ≡ false
      → OrdersMarks (round_one rules old).items new.items

-- an item except for its cluster and its mask
abbrev pub without_cluster : Item → Item
without_cluster item = record item { cluster = 0; mask = 0 }

-- no run of more than 32 marks stands in a list, by its items' ccc
abbrev pub HasShortRuns : List Item → Type 0
HasShortRuns items = HasNoLongerRun (λ ccc. ccc) max_run (map ccc_of_item items)

-- in the modes that compose, the new list is the ordered one, recomposed by the rule of the standard (D115 to D117);
-- without a reorder hook and without a run of more than 32 marks, the new buffer is the same if the mark emitted last
-- alone decides
pub record Recomposes (rules : Rules) (old new : Buffer) : Type 0 where
  pub by_all : has_mark_past_first old.items ≡ true → rules.recomposes ≡ true
      → map without_cluster new.items ≡ map (λ p. without_cluster p.item) (recomposed_items rules (ordered rules old).items)
  pub by_last : has_mark_past_first old.items ≡ true → rules.recomposes ≡ true → rules.reorder ≡ None
      → HasShortRuns (round_one rules old).items
      → new ≡ with_put_out rules (ordered rules old) (recomposed_by_last rules (ordered rules old).items)

-- the feature bits of an item: its mask without the three defined flags
abbrev pub features_of : Item → ℕ
features_of item = feature_bits item.mask

-- each item has the feature bits of an item of the text
abbrev pub PreservesFeatures : Buffer → Buffer → Type 0
PreservesFeatures old new = All (λ item. Contains (map features_of old.items) (features_of item)) new.items

-- an item's character and whether it is hidden
abbrev pub hidden_char : Item → ℕ × Bool
hidden_char item = (item.codepoint, item.properties.hidden)

-- if no CGJ was seen by the end of round one, each item's hidden bit is that of its character, or the item has the
-- character and the hidden bit of one of the text
abbrev pub PreservesHidden : Rules → Buffer → Buffer → Type 0
PreservesHidden rules old new =
    has_seen_cgj (round_one rules old) ≡ false
    → All (λ item. (item.properties.hidden ≡ is_hidden_char item.codepoint)
    ⊎ Contains (map hidden_char old.items) (hidden_char item)) new.items
