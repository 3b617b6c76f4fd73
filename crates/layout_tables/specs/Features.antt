-- Features (OpenType, "OpenType Layout Common Table Formats", Language System Table, Feature List and Feature Table).
use Rattle.std.specs.Prelude.{◌≡◌, ◌≢◌, ◌<◌, ℕ, List, Option, Some, None, Bool, true, false, ◌+◌, ◌*◌, ◌/◌, ◌%◌, ◌^◌, ◌||◌, ◌&&◌, length, nat_eq}
use Rattle.std.specs.Prelude.{nat_lt, if◌then◌else◌}
use Rattle.std.specs.Int.{bit_at}
use Rattle.std.specs.Option.{option_map, option_and_then, option_map_or}
use Rattle.shape_font.specs.Bytes.{u16_of, u32_of, fitting}
use Rattle.shape_font.specs.Search.{first_at}
use Rattle.layout_tables.specs.Offsets.{offset16_of, header_offset_of}

-- how many features the FeatureList at `list` has
abbrev pub features_at : List ℕ → ℕ → ℕ
features_at t list = fitting t (u16_of t list) (list + 2) 6

abbrev pub feature_count_of : List ℕ → ℕ
feature_count_of t = option_map_or (features_at t) (header_offset_of t 6) 0

abbrev pub tag_at : List ℕ → ℕ → ℕ → ℕ
tag_at t index list = if nat_lt index (features_at t list) then u32_of t (list + 2 + 6 * index) else 0

-- the tag of a feature, 0 past the last one
abbrev pub feature_tag_of : List ℕ → ℕ → ℕ
feature_tag_of t index = option_map_or (tag_at t index) (header_offset_of t 6) 0

-- the feature that is on for a language system whatever is asked; 0xFFFF is none, and a language system past the end, or cut
-- before its count of features, requires none
abbrev pub required_feature_of : List ℕ → ℕ → Option ℕ
required_feature_of t lang_sys = let index = u16_of t (lang_sys + 2) in
    (if nat_eq index 0xFFFF || nat_lt (length t) (lang_sys + 6) then None else Some index)

-- no feature has the tag 0
abbrev pub has_tag : List ℕ → ℕ → ℕ → Bool
has_tag t tag index = nat_lt 0 tag && nat_eq (feature_tag_of t index) tag

-- the first feature with the tag, of those that a language system lists by their indexes
abbrev pub has_feature_tag : List ℕ → ℕ → ℕ → ℕ → Bool
has_feature_tag t lang_sys tag i = has_tag t tag (u16_of t (lang_sys + 6 + 2 * i))

abbrev pub listed_tag_of : List ℕ → ℕ → ℕ → ℕ
listed_tag_of t lang_sys i = feature_tag_of t (u16_of t (lang_sys + 6 + 2 * i))

abbrev pub feature_index_of : List ℕ → ℕ → ℕ → Option ℕ
feature_index_of t lang_sys tag = option_map (λ i. u16_of t (lang_sys + 6 + 2 * i))
    (first_at (has_feature_tag t lang_sys tag) (fitting t (u16_of t (lang_sys + 4)) (lang_sys + 6) 2) 0)

-- digests of tags: words with a bit for each tag that was put in, which others may share
abbrev pub tag_place : ℕ → ℕ
tag_place tag = tag * 0x9E3779B1 % 2 ^ 32 / 2 ^ 26

unfoldable pub may_hold : ℕ → ℕ → Bool
may_hold digest tag = nat_eq (bit_at digest (tag_place tag)) 1

abbrev pub KeepsTags : ℕ → ℕ → Type 0
KeepsTags digest after = (tag : ℕ) → may_hold digest tag ≡ true → may_hold after tag ≡ true

-- none of the first `n` features that a language system lists has a tag that the digest lacks
abbrev pub HoldsFirst : List ℕ → ℕ → ℕ → ℕ → Type 0
HoldsFirst t lang_sys n digest = (tag : ℕ) → may_hold digest tag ≡ false → first_at (has_feature_tag t lang_sys tag) n 0 ≡ None

-- the same of all that it lists
abbrev pub HoldsListed : List ℕ → ℕ → ℕ → Type 0
HoldsListed t lang_sys digest = (tag : ℕ) → may_hold digest tag ≡ false → feature_index_of t lang_sys tag ≡ None

-- each bit is that of the tag of one of the first `n`
abbrev pub HasOnlyFirst : List ℕ → ℕ → ℕ → ℕ → Type 0
HasOnlyFirst t lang_sys n digest = (tag : ℕ)
    → ((i : ℕ) → i < n → tag_place (listed_tag_of t lang_sys i) ≢ tag_place tag) → may_hold digest tag ≡ false

abbrev pub HasOnlyListed : List ℕ → ℕ → ℕ → Type 0
HasOnlyListed t lang_sys digest = HasOnlyFirst t lang_sys (fitting t (u16_of t (lang_sys + 4)) (lang_sys + 6) 2) digest

-- the first feature of the table with the tag, whatever the language system
abbrev pub any_feature_of : List ℕ → ℕ → Option ℕ
any_feature_of t tag = first_at (has_tag t tag) (feature_count_of t) 0

-- where a Feature table stands
abbrev pub feature_at : List ℕ → ℕ → ℕ → Option ℕ
feature_at t index list = if nat_lt index (features_at t list) then offset16_of t list (list + 6 + 6 * index) else None

abbrev pub feature_of : List ℕ → ℕ → Option ℕ
feature_of t index = option_and_then (feature_at t index) (header_offset_of t 6)

-- how many lookups the Feature table at `feature` lists, and one of them
abbrev pub feature_lookup_count_of : List ℕ → ℕ → ℕ
feature_lookup_count_of t feature = fitting t (u16_of t (feature + 2)) (feature + 4) 2

abbrev pub feature_lookup_of : List ℕ → ℕ → ℕ → ℕ
feature_lookup_of t feature i = u16_of t (feature + 4 + 2 * i)
