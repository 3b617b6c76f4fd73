-- Where each item of the normalised list came from, and what it has of the item that stood there, place by place.
use Rattle.std.specs.Prelude.{◌≡◌, ◌⊎◌, ℕ, suc, ◌-◌, ◌<◌, ◌≤◌, ◌&&◌, Bool, true, false, if◌then◌else◌, List, [], ◌∷◌, map, length, get_or, Option}
use Rattle.std.specs.Prelude.{None, is_some}
use Rattle.std.specs.List.{AllZip, flat_map, range_with_len}
use Rattle.std.specs.List.Sorted.{IsPermutation}
use Rattle.std.specs.Option.{MatchOption}
use Rattle.shape_items.specs.Buffer.{Buffer}
use Rattle.shape_common.specs.Face.{FaceMeaning}
use Rattle.shape_items.specs.Items.{Item, new_item, ccc_of_item, is_mark_item}
use Rattle.shape_items.specs.UnicodeProps.{is_hidden_char}
use Rattle.shape_common.specs.declared.text_types.GlyphId.{GlyphId}
use Rattle.canonical_form.specs.Divided.{divided}
use Rattle.canonical_form.specs.Runs.{AreRunsSettled}
use Rattle.shape_plan.specs.Rules.{Rules, has_glyph}
use Rattle.shape_normalize.specs.Normalized.{ordered, features_of, hidden_char}
use Rattle.shape_normalize.specs.Reordered.{unmerged, without_ccc}
use Rattle.shape_normalize.specs.Recast.{recast_to}
use Rattle.shape_normalize.specs.RoundOne.{item_glyph, emitted_for, variant_items, is_selector_item, is_with_marks, is_selector_sequence}
use Rattle.shape_normalize.specs.RoundOne.{variation_sequences_merged, round_one}
use Rattle.shape_normalize.specs.RoundTwo.{max_run, has_mark_past_first, unhidden, has_seen_cgj}
use Rattle.shape_normalize.specs.RoundThree.{Absorbed, Placed, recomposed_items}

-- the item at a place of a list; which item is returned past its end doesn't matter
abbrev pub item_at : List Item → ℕ → Item
item_at items place = get_or items place (new_item 0 0)

-- the places of a list
abbrev pub all_places : List Item → List ℕ
all_places items = range_with_len 0 (length items)

-- ---- round one

-- the place of the text that an item of the expanded list came from, and whether it stands in a sequence of two or more
-- items that holds a variation selector
pub record Origin : Type 0 where
  pub place : ℕ
  pub selects : Bool

abbrev pub origin_at : Bool → ℕ → Origin
origin_at selects place = record { place = place; selects = selects }

-- the origins of what an item becomes with the selectors directly after it, which stand at these places: each is given
-- its place for a cluster, and what it becomes has that
abbrev pub variant_origins : FaceMeaning → (ℕ → Item) → List ℕ → List Origin
variant_origins face at places =
    map (λ item. origin_at true item.cluster) (variant_items face None (map (λ place. record (at place) { cluster = place }) places))

-- of what the sequence at these places becomes: each item of an expansion came from the item that was expanded
abbrev pub sequence_origins : Rules → Option GlyphId → (ℕ → Item) → List ℕ → List Origin
sequence_origins rules invisible at places =
    let become = emitted_for rules invisible (rules.short (is_with_marks (map at places))) in
    if is_selector_sequence rules.unicode (map at places)
    then flat_map (variant_origins rules.face at) (divided (λ place. is_selector_item rules.unicode (at place)) places)
    else flat_map (λ place. map (λ item. origin_at false place) (become (at place))) places

-- the origin of each item of the expanded list
abbrev pub origins : Rules → Buffer → List Origin
origins rules text =
    let items = (variation_sequences_merged rules text).items in
    flat_map (sequence_origins rules text.invisible_glyph (item_at items))
    (divided (λ place. is_mark_item (item_at items place)) (all_places items))

-- what an item has of the text's item at the place that it came from: the feature bits; outside such sequences the glyph
-- of its own character, or what replaces that; and the hidden bit with the character, or else that of its own
-- character, except for a CGJ that may have been unhidden since
pub record HasOfOrigin (rules : Rules) (text : Buffer) (unhides : Bool) (origin : Origin) (item : Item) : Type 0 where
  pub features : features_of item ≡ features_of (item_at text.items origin.place)
  pub glyph : origin.selects ≡ false → item.glyph_index ≡ item_glyph rules text.invisible_glyph item
  pub hidden : (hidden_char item ≡ hidden_char (item_at text.items origin.place))
      ⊎ (item.properties.hidden ≡ is_hidden_char item.codepoint) ⊎ ((unhides ≡ true) × (item.codepoint ≡ 0x34F))

-- ---- round two

-- a run of marks from one place up to another, of at most 32: the items in it have a ccc, the ones beside it have none
pub record IsShortRun (items : List Item) (start end : ℕ) : Type 0 where
  pub short : end - start ≤ max_run
  pub marks : (k : ℕ) → start ≤ k → k < end → 0 < ccc_of_item (item_at items k)
  pub before : (k : ℕ) → suc k ≡ start → ccc_of_item (item_at items k) ≡ 0
  pub behind : ccc_of_item (item_at items end) ≡ 0

-- two places of one such run
pub record ShareShortRun (items : List Item) (p q : ℕ) : Type 0 where
  pub start : ℕ
  pub end : ℕ
  pub run : IsShortRun items start end
  pub first : (start ≤ p) × (p < end)
  pub second : (start ≤ q) × (q < end)

-- an item may go from one place to another: they are the same, or in one run of at most 32 marks
abbrev pub AreInOneRun : List Item → ℕ → ℕ → Type 0
AreInOneRun items p q = (p ≡ q) ⊎ ShareShortRun items p q

-- a list of places is all of them, each run of at most 32 marks in another order
pub record PermutesRuns (items : List Item) (places : List ℕ) : Type 0 where
  pub all : IsPermutation (all_places items) places
  pub runs : (i d : ℕ) → i < length items → AreInOneRun items i (get_or places i d)

-- the places of the expanded list in the order that round two leaves: if no reorder hook is given runs of at most 32
-- marks are settled, else each of these is in another order
abbrev pub IsOrderOf : Rules → List Item → List ℕ → Type 0
IsOrderOf rules items places =
    MatchOption rules.reorder (AreRunsSettled (λ place. ccc_of_item (item_at items place)) max_run [] (all_places items) places)
    (λ reorder. PermutesRuns items places)

-- an item except for its cluster and its defined flags, which merging changes, and for its ccc if a reorder hook is
-- given, which may set that
abbrev pub lasting : Rules → Item → Item
lasting rules item = if is_some rules.reorder then without_ccc item else unmerged item

-- an item is the one of the expanded list that stood at this place; a CGJ may be unhidden, if one was seen
abbrev pub IsFromPlace : Rules → Buffer → ℕ → Item → Type 0
IsFromPlace rules expanded place item =
    let from = item_at expanded.items place in
    (lasting rules item ≡ lasting rules from)
    ⊎ ((has_seen_cgj expanded ≡ true) × (from.codepoint ≡ 0x34F) × (lasting rules item ≡ lasting rules (unhidden from)))

-- ---- round three

-- the character of the last of some compositions, by that of the first
abbrev pub last_char : ℕ → List Absorbed → ℕ
last_char c [] = c
last_char c (mark ∷ marks) = last_char mark.char marks

-- an item is this one; once marks were composed with that, it has the character of the last composition, which has a
-- glyph, with that glyph and with the properties of that character
abbrev pub IsOnceComposed : Rules → Item → List Absorbed → Item → Type 0
IsOnceComposed rules from [] item = unmerged item ≡ unmerged from
IsOnceComposed rules from (mark ∷ marks) item =
    (item.codepoint ≡ last_char mark.char marks) × (has_glyph rules.face.nominal_glyph item.codepoint ≡ true)
    × (unmerged item ≡ unmerged (recast_to rules.unicode rules.face.nominal_glyph from item.codepoint))

-- an item is what became of the starter that stood at its place
abbrev pub IsFromStarter : Rules → List Item → Placed → Item → Type 0
IsFromStarter rules items p item = IsOnceComposed rules (item_at items p.place) p.absorbed item

-- ---- the three rounds

-- whether marks are composed with their starters
abbrev pub is_recomposed : Rules → Buffer → Bool
is_recomposed rules text = has_mark_past_first text.items && rules.recomposes

-- the origins of the new list's items, if the items of the ordered list stood at these places of the expanded one
abbrev pub new_origins : Rules → Buffer → List ℕ → List Origin
new_origins rules text places =
    let none = origin_at false 0 in
    let of_ordered = map (λ place. get_or (origins rules text) place none) places in
    if is_recomposed rules text then map (λ p. get_or of_ordered p.place none) (recomposed_items rules (ordered rules text).items)
    else of_ordered

-- each item of the expanded list by the place of the text that it came from, each of the ordered list by its place in
-- the expanded one, and each of the new list by the place of its starter in the ordered one; and so, what each has of
-- the text's item that it came from
pub record ComesByPlace (rules : Rules) (text new : Buffer) : Type 0 where
  pub expanded : AllZip (HasOfOrigin rules text false) (origins rules text) (round_one rules text).items
  pub places : List ℕ
  pub unmarked : has_mark_past_first text.items ≡ false → places ≡ all_places (round_one rules text).items
  pub marked : has_mark_past_first text.items ≡ true → IsOrderOf rules (round_one rules text).items places
  pub ordered_list : AllZip (IsFromPlace rules (round_one rules text)) places (ordered rules text).items
  pub recomposed : is_recomposed rules text ≡ true
      → AllZip (IsFromStarter rules (ordered rules text).items) (recomposed_items rules (ordered rules text).items) new.items
  pub left : is_recomposed rules text ≡ false → new ≡ ordered rules text
  pub from_text : AllZip (HasOfOrigin rules text (has_seen_cgj (round_one rules text))) (new_origins rules text places) new.items
