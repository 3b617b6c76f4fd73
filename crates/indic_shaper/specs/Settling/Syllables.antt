-- A syllable once lookups have made the basic forms, and the whole text.
use Rattle.std.specs.Prelude.{ℕ, ◌+◌, ◌-◌, ◌==◌, ◌||◌, not, nat_lt, Bool, true, false, if◌then◌else◌, set}
use Rattle.shape_common.specs.declared.general_category.hb_unicode_general_category_t.{hb_unicode_general_category_t}
use Rattle.shape_common.specs.declared.general_category.hb_unicode_general_category_t.TheVariants.{Format, Unassigned}
use Rattle.shape_common.specs.declared.general_category.hb_unicode_general_category_t.TheVariants.{PrivateUse}
use Rattle.shape_common.specs.declared.general_category.hb_unicode_general_category_t.TheVariants.{Surrogate}
use Rattle.shape_common.specs.declared.general_category.hb_unicode_general_category_t.TheVariants.{LowercaseLetter}
use Rattle.shape_common.specs.declared.general_category.hb_unicode_general_category_t.TheVariants.{ModifierLetter}
use Rattle.shape_common.specs.declared.general_category.hb_unicode_general_category_t.TheVariants.{OtherLetter}
use Rattle.shape_common.specs.declared.general_category.hb_unicode_general_category_t.TheVariants.{TitlecaseLetter}
use Rattle.shape_common.specs.declared.general_category.hb_unicode_general_category_t.TheVariants.{UppercaseLetter}
use Rattle.shape_common.specs.declared.general_category.hb_unicode_general_category_t.TheVariants.{SpacingMark}
use Rattle.shape_common.specs.declared.general_category.hb_unicode_general_category_t.TheVariants.{EnclosingMark}
use Rattle.shape_common.specs.declared.general_category.hb_unicode_general_category_t.TheVariants.{NonspacingMark}
use Rattle.shape_items.specs.Buffer.{Buffer}
use Rattle.shape_items.specs.BufferClusters.{unsafe_to_break}
use Rattle.syllabic.specs.Walking.{item_at, each_syllable, OfSyllable}
use Rattle.indic_shaper.specs.Glyphs.{position, with_mask}
use Rattle.indic_shaper.specs.Settling.Bases as bases
use Rattle.indic_shaper.specs.Settling.Matras as matras
use Rattle.indic_shaper.specs.Settling.Rephs as rephs
use Rattle.indic_shaper.specs.Settling.Prefs as prefs
use Rattle.indic_shaper.specs.declared.engine.Facts.{Facts}
use Rattle.indic_shaper.specs.declared.settling.base.Spot.{Spot}

-- ---- the form of a left matra that begins a word

-- letters, marks, format characters and those without a category go on with a word
abbrev pub is_in_word : hb_unicode_general_category_t → Bool
is_in_word Format = true
is_in_word Unassigned = true
is_in_word PrivateUse = true
is_in_word Surrogate = true
is_in_word LowercaseLetter = true
is_in_word ModifierLetter = true
is_in_word OtherLetter = true
is_in_word TitlecaseLetter = true
is_in_word UppercaseLetter = true
is_in_word SpacingMark = true
is_in_word EnclosingMark = true
is_in_word NonspacingMark = true
is_in_word _ = false

abbrev pub begins_word : Buffer → ℕ → Bool
begins_word b start = (start == 0) || not (is_in_word (item_at b.items (start - 1)).properties.general_category)

-- `init` is for left matras that begin a word. Elsewhere the text must not be broken before one: it would take that form there
abbrev pub beginning_marked : ℕ → ℕ → Buffer → Buffer
beginning_marked mask start b =
    if position (item_at b.items start) == 2
    then if begins_word b start then record b { items = set b.items start (with_mask (item_at b.items start) mask) }
    else unsafe_to_break (start - 1) (start + 1) b
    else b

-- ---- the steps, in the specification's order

abbrev pub moved : Facts → (start end : ℕ) → Buffer → Spot → Buffer
moved facts start end b spot =
    let one = matras.settled facts.tag start end spot.base b in
    let two = rephs.settled facts.config.reph_position start end spot.base one in
    let base = rephs.base_after facts.config.reph_position one.items start end spot.base in
    if spot.try_pref then prefs.settled facts.tag facts.masks.pref start end base two else two

unfoldable pub settled : Facts → OfSyllable
settled facts b start end =
    beginning_marked facts.masks.init start (moved facts start end (bases.found facts start end b).0 (bases.found facts start end b).1)

-- a syllable has an item at least
abbrev pub settled_some : Facts → OfSyllable
settled_some facts b start end = if nat_lt start end then settled facts b start end else b

-- all of them, from left to right
abbrev pub all_settled : Facts → Buffer → Buffer
all_settled facts b = each_syllable (settled_some facts) (bases.viramas_mended facts.virama b)
