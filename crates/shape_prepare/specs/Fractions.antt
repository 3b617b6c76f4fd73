-- Fractions: digits around U+2044 get the features of numerators and denominators.
use Rattle.std.specs.Prelude.{ℕ, ◌+◌, ◌-◌, ◌==◌, ◌&&◌, nat_lt, Bool, List, [], ◌∷◌, take, drop, if◌then◌else◌}
use Rattle.std.specs.Int.RustNames.{bit_and, bit_or}
use Rattle.std.specs.List.{prefix_len, suffix_len}
use Rattle.shape_items.specs.Buffer.{Buffer}
use Rattle.shape_items.specs.BufferClusters.{unsafe_to_break, unsafe_to_concat}
use Rattle.shape_common.specs.Category.{is_digit_category}
use Rattle.shape_items.specs.Clusters.{map_range}
use Rattle.shape_common.specs.Direction.{is_forward}
use Rattle.shape_items.specs.Items.{Item}
use Rattle.shape_common.specs.declared.text_types.Direction.{Direction}
use Rattle.shape_plan.specs.declared.decisions.Decisions.{Decisions}
use Rattle.shape_prepare.specs.declared.fractions.FractionMasks.{FractionMasks}
use Rattle.shape_common.specs.FlagNames.{HAS_NON_ASCII}

-- before the slash stands the numerator if text runs forward, else the denominator
abbrev pub fraction_masks : Decisions → Direction → FractionMasks
fraction_masks decisions direction =
    let numerator = bit_or decisions.numr_mask decisions.frac_mask in
    let denominator = bit_or decisions.frac_mask decisions.dnom_mask in
    if is_forward direction then record { before = numerator; slash = decisions.frac_mask; after = denominator }
    else record { before = denominator; slash = decisions.frac_mask; after = numerator }

-- U+2044, the fraction slash
abbrev pub is_slash : Item → Bool
is_slash item = item.codepoint == 0x2044

-- a digit, by its category alone
abbrev pub is_digit : Item → Bool
is_digit item = is_digit_category item.properties.general_category

-- the places of slashes in a list that begins at place `from`, in order
abbrev pub slash_places : ℕ → List Item → List ℕ
slash_places from [] = []
slash_places from (item ∷ items) = if is_slash item then from ∷ slash_places (from + 1) items else slash_places (from + 1) items

-- where the digits directly before a slash begin
abbrev pub whole_start : List Item → ℕ → ℕ
whole_start items slash = slash - suffix_len is_digit (take slash items)

-- where the digits directly after it end
abbrev pub whole_end : List Item → ℕ → ℕ
whole_end items slash = slash + 1 + prefix_len is_digit (drop (slash + 1) items)

-- some features added to an item
abbrev pub with_features : ℕ → Item → Item
with_features mask item = record item { mask = bit_or item.mask mask }

-- and to the items from place `start` up to `end`
unfoldable pub features_added : ℕ → ℕ → ℕ → Buffer → Buffer
features_added mask start end b = record b { items = map_range (with_features mask) start end b.items }

-- digits stand directly on both sides of a slash
abbrev pub has_whole : List Item → ℕ → Bool
has_whole items slash = nat_lt (whole_start items slash) slash && nat_lt (slash + 1) (whole_end items slash)

-- the whole is marked unsafe to break, and each of its three parts gets its features; a slash without digits on one
-- side is marked unsafe to concat alone
unfoldable pub slash_masked : FractionMasks → ℕ → Buffer → Buffer
slash_masked masks slash b =
    let start = whole_start b.items slash in
    let end = whole_end b.items slash in
    if has_whole b.items slash then
    features_added masks.after (slash + 1) end
    (features_added masks.slash slash (slash + 1)
    (features_added masks.before start slash (unsafe_to_break start end b)))
    else unsafe_to_concat slash (slash + 1) b

-- where the walk goes on: after the whole, or after a slash that has none
abbrev pub next_place : List Item → ℕ → ℕ
next_place items slash = if has_whole items slash then whole_end items slash else slash + 1

-- the slashes at some places one after another, except for those that stand before place `next`, in the whole of an
-- earlier one
abbrev pub slashes_masked : FractionMasks → ℕ → List ℕ → Buffer → Buffer
slashes_masked masks next [] b = b
slashes_masked masks next (slash ∷ slashes) b =
    if nat_lt slash next then slashes_masked masks next slashes b
    else slashes_masked masks (next_place b.items slash) slashes (slash_masked masks slash b)

-- there are lookups for fractions, and a character past ASCII was seen (scratch flag 1)
abbrev pub may_have_fractions : Decisions → Buffer → Bool
may_have_fractions decisions b = decisions.has_frac && bit_and b.scratch_flags.0 HAS_NON_ASCII == HAS_NON_ASCII

unfoldable pub fractions_masked : Decisions → Buffer → Buffer
fractions_masked decisions b =
    if may_have_fractions decisions b then
    slashes_masked (fraction_masks decisions b.direction) 0 (slash_places 0 b.items) b
    else b
