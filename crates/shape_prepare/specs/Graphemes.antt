-- The properties of a text's items, and which of them continue a grapheme.
use Rattle.std.specs.Prelude.{ℕ, Bool, true, false, ◌&&◌, ◌||◌, not, nat_le, nat_lt, if◌then◌else◌, List, [], ◌∷◌, map, fold}
use Rattle.shape_items.specs.Buffer.{Buffer}
use Rattle.shape_items.specs.Items.{Item}
use Rattle.shape_common.specs.Unicode.{UnicodeMeaning}
use Rattle.shape_items.specs.UnicodeProps.{with_unicode_props, with_scratch_of}
use Rattle.shape_common.specs.declared.flags.ScratchFlags.{ScratchFlags}
use Rattle.shape_common.specs.declared.general_category.hb_unicode_general_category_t.{hb_unicode_general_category_t}
use Rattle.shape_common.specs.declared.general_category.hb_unicode_general_category_t.TheVariants.{UppercaseLetter, LowercaseLetter, TitlecaseLetter}
use Rattle.shape_common.specs.declared.general_category.hb_unicode_general_category_t.TheVariants.{OtherLetter, SpaceSeparator, ModifierSymbol}
use Rattle.shape_prepare.specs.declared.graphemes.Before.{Before}
use Rattle.shape_prepare.specs.declared.graphemes.Before.TheVariants.{Plain, OpenIndicator, Zwj}

-- the categories that no rule on continuations asks about: letters except modifier letters, and space separators
abbrev pub is_unasked : hb_unicode_general_category_t → Bool
is_unasked LowercaseLetter = true
is_unasked UppercaseLetter = true
is_unasked TitlecaseLetter = true
is_unasked OtherLetter = true
is_unasked SpaceSeparator = true
is_unasked _ = false

abbrev pub is_modifier_symbol : hb_unicode_general_category_t → Bool
is_modifier_symbol ModifierSymbol = true
is_modifier_symbol _ = false

-- U+1F3FB to U+1F3FF, which give an emoji the colour of a skin
abbrev pub is_skin_tone : ℕ → Bool
is_skin_tone c = nat_le 0x1F3FB c && nat_le c 0x1F3FF

-- U+1F1E6 to U+1F1FF, of which two stand for a flag
abbrev pub is_regional_indicator : ℕ → Bool
is_regional_indicator c = nat_le 0x1F1E6 c && nat_le c 0x1F1FF

-- U+FF9E and U+FF9F, the voice marks of halfwidth katakana, and U+E0020 to U+E007F, the tags
abbrev pub is_extender : ℕ → Bool
is_extender c = (nat_le 0xFF9E c && nat_le c 0xFF9F) || (nat_le 0xE0020 c && nat_le c 0xE007F)

-- a pictograph right after a ZWJ
abbrev pub is_joined : UnicodeMeaning → Before → ℕ → Bool
is_joined unicode Zwj c = unicode.pictographic c
is_joined unicode _ c = false

-- after a regional indicator that continues nothing
abbrev pub is_open : Before → Bool
is_open OpenIndicator = true
is_open _ = false

-- after a ZWJ
abbrev pub is_joining : Before → Bool
is_joining Zwj = true
is_joining _ = false

-- the rules on an item by itself and the one before: a skin tone, the second of two regional indicators, a ZWJ, an
-- extender
abbrev pub continues_by_rule : Before → Item → Bool
continues_by_rule before item =
    let c = item.codepoint in
    not (is_unasked item.properties.general_category)
    && ((is_modifier_symbol item.properties.general_category && is_skin_tone c) || (is_regional_indicator c && is_open before)
    || item.properties.zwj || is_extender c)

-- an item that continues the grapheme before it: a mark, a pictograph after a ZWJ, or one by rule
abbrev pub continues : UnicodeMeaning → Before → Item → Bool
continues unicode before item = item.properties.continuation || is_joined unicode before item.codepoint || continues_by_rule before item

-- what an item is to the next one: a regional indicator is open unless it continues, and a ZWJ joins unless it was
-- itself joined or is of a category that no rule asks about
abbrev pub is_to_next : UnicodeMeaning → Before → Item → Before
is_to_next unicode before item =
    if is_regional_indicator item.codepoint && not (continues unicode before item) then OpenIndicator
    else if item.properties.zwj && not (is_joined unicode before item.codepoint)
    && not (is_unasked item.properties.general_category) then Zwj
    else Plain

-- no rule has a say: the item continues already, as a mark does, and is no ZWJ
abbrev pub is_settled : Item → Bool
is_settled item = item.properties.continuation && not item.properties.zwj

-- no rule has a say: nothing joins the item to the one before, its category is one that no rule asks about, and it
-- stands before the regional indicators
abbrev pub is_left_alone : Before → Item → Bool
is_left_alone before item =
    not (is_joining before) && is_unasked item.properties.general_category && nat_lt item.codepoint 0x1F1E6

abbrev pub with_continuation : Bool → Item → Item
with_continuation continuation item = record item { properties = record item.properties { continuation = continuation } }

-- each item marked as a continuation if it is one
abbrev pub continuations_marked : UnicodeMeaning → Before → List Item → List Item
continuations_marked unicode before [] = []
continuations_marked unicode before (item ∷ items) =
    with_continuation (continues unicode before item) item ∷ continuations_marked unicode (is_to_next unicode before item) items

-- the scratch flags once an item was seen
abbrev pub seen_item : UnicodeMeaning → ScratchFlags → Item → ScratchFlags
seen_item unicode flags item = with_scratch_of unicode item.codepoint flags

-- each item with the properties of its character, continuations marked, and the scratch flags that the characters show
unfoldable pub graphemes_marked : UnicodeMeaning → Buffer → Buffer
graphemes_marked unicode b = record b {
  items = continuations_marked unicode Plain (map (with_unicode_props unicode) b.items);
  scratch_flags = fold (seen_item unicode) b.scratch_flags b.items;
}
