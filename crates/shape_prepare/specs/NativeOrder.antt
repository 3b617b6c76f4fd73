-- The native direction of a text, and its native order.
use Rattle.std.specs.Prelude.{ℕ, Bool, true, false, ◌&&◌, ◌||◌, not, if◌then◌else◌, Option, Some, None, List, [], ◌∷◌, map, length, take, drop, reverse}
use Rattle.std.specs.List.{list_any, flat_map}
use Rattle.shape_items.specs.Buffer.{Buffer}
use Rattle.shape_items.specs.BufferClusters.{merge_clusters}
use Rattle.shape_common.specs.Category.{is_digit_category}
use Rattle.shape_common.specs.Direction.{reverse_of}
use Rattle.shape_items.specs.Items.{Item}
use Rattle.shape_common.specs.Unicode.{UnicodeMeaning}
use Rattle.shape_common.specs.declared.general_category.hb_unicode_general_category_t.{hb_unicode_general_category_t}
use Rattle.shape_common.specs.declared.general_category.hb_unicode_general_category_t.TheVariants.{UppercaseLetter, LowercaseLetter, TitlecaseLetter}
use Rattle.shape_common.specs.declared.general_category.hb_unicode_general_category_t.TheVariants.{ModifierLetter, OtherLetter}
use Rattle.shape_common.specs.declared.text_types.BufferClusterLevel.TheVariants.{MonotoneGraphemes, MonotoneCharacters, Characters}
use Rattle.shape_common.specs.declared.text_types.Direction.{Direction}
use Rattle.shape_common.specs.declared.text_types.Direction.TheVariants.{Invalid, LeftToRight, RightToLeft, TopToBottom, BottomToTop}
use Rattle.shape_common.specs.declared.text_types.Script.{Script}
use Rattle.shape_items.specs.GraphemeSpans.{graphemes}
use Rattle.shape_prepare.specs.Graphemes.{is_regional_indicator}
use Rattle.shape_prepare.specs.ClustersFormed.{over_graphemes}

-- the five categories of letters
abbrev pub is_letter_category : hb_unicode_general_category_t → Bool
is_letter_category UppercaseLetter = true
is_letter_category LowercaseLetter = true
is_letter_category TitlecaseLetter = true
is_letter_category ModifierLetter = true
is_letter_category OtherLetter = true
is_letter_category _ = false

abbrev pub is_letter : Item → Bool
is_letter item = is_letter_category item.properties.general_category

-- a digit, or a regional indicator, which runs to the right too
abbrev pub is_number : Item → Bool
is_number item = is_digit_category item.properties.general_category || is_regional_indicator item.codepoint

-- numbers and no letter
abbrev pub has_numbers_alone : List Item → Bool
has_numbers_alone items = not (list_any is_letter items) && list_any is_number items

-- a direction that is known
abbrev pub known_direction : Option Direction → Option Direction
known_direction (Some Invalid) = None
known_direction direction = direction

-- the direction that a script is written in; none is known without a script
abbrev pub direction_of_script : UnicodeMeaning → Option Script → Option Direction
direction_of_script unicode None = None
direction_of_script unicode (Some script) = known_direction (unicode.script_direction script)

-- text left to right that has numbers alone is native to a script that is written right to left
abbrev pub native_for : Direction → List Item → Option Direction → Option Direction
native_for LeftToRight items (Some RightToLeft) = if has_numbers_alone items then Some LeftToRight else Some RightToLeft
native_for direction items native = native

abbrev pub native_direction : UnicodeMeaning → Buffer → Option Direction
native_direction unicode b = native_for b.direction b.items (direction_of_script unicode b.script)

-- horizontal text unlike a known native direction, or vertical text that runs to the top
abbrev pub is_against : Option Direction → Direction → Bool
is_against native Invalid = false
is_against native TopToBottom = false
is_against native BottomToTop = true
is_against None direction = false
is_against (Some LeftToRight) LeftToRight = false
is_against (Some RightToLeft) RightToLeft = false
is_against (Some native) direction = true

-- a list divided into parts of these sizes
abbrev pub parted : {A : Type 0} → List ℕ → List A → List (List A)
parted [] xs = []
parted (size ∷ sizes) xs = take size xs ∷ parted sizes (drop size xs)

-- the items of parts, from the last part to the first, each as it was
abbrev pub from_last : {A : Type 0} → List (List A) → List A
from_last parts = flat_map (λ part. part) (reverse parts)

-- the graphemes, with their positions, from the last to the first, and the opposite direction
abbrev pub graphemes_reversed : Buffer → Buffer
graphemes_reversed b = record b {
  items = from_last (graphemes b.items);
  positions = from_last (parted (map length (graphemes b.items)) b.positions);
  direction = reverse_of b.direction;
}

-- at level MONOTONE_CHARACTERS each grapheme is merged before it is reversed
abbrev pub merged_to_reverse : Buffer → Buffer
merged_to_reverse b = elim b.cluster_level [
  | MonotoneGraphemes ↦ b
  | MonotoneCharacters ↦ over_graphemes merge_clusters b
  | Characters ↦ b
]

-- text against its native direction is reversed
unfoldable pub natively_ordered : UnicodeMeaning → Buffer → Buffer
natively_ordered unicode b = if is_against (native_direction unicode b) b.direction then graphemes_reversed (merged_to_reverse b) else b
