-- The base of a syllable, and whether a reph begins it.
use Rattle.std.specs.Prelude.{ℕ, zero, suc, ◌+◌, ◌-◌, ◌==◌, ◌&&◌, ◌||◌, not, nat_le, nat_lt, Bool, true, false, List}
use Rattle.std.specs.Prelude.{[], ◌∷◌, length, drop, if◌then◌else◌}
use Rattle.std.specs.List.{prefix_len}
use Rattle.shape_buffer.specs.Layout.{LookupMeaning}
use Rattle.shape_items.specs.Items.{Item}
use Rattle.syllabic.specs.Walking.{item_at}
use Rattle.indic_shaper.specs.Engine.{would}
use Rattle.indic_shaper.specs.Glyphs.{category, position, is_consonant, is_joiner}
use Rattle.indic_shaper.specs.declared.categories.TheConstants.{CAT_H, CAT_REPHA, CAT_ZWJ, POS_BELOW_C, POS_POST_C}
use Rattle.indic_shaper.specs.declared.config.RephMode.{RephMode}
use Rattle.indic_shaper.specs.declared.config.RephMode.TheVariants.{Implicit, Explicit, Encoded}
use Rattle.indic_shaper.specs.declared.engine.Facts.{Facts}
use Rattle.indic_shaper.specs.declared.initial.base.Base.{Base}
use Rattle.indic_shaper.specs.declared.requests.TheConstants.{RPHF}

-- the first place from here on without a joiner
abbrev pub after_joiners : List Item → ℕ → ℕ
after_joiners items from = from + prefix_len is_joiner (drop from items)

abbrev pub glyph_at : List Item → ℕ → ℕ
glyph_at items i = (item_at items i).glyph_id

-- "if the syllable starts with Ra + Halant (in a script that has Reph)": what stands third tells whether a reph is meant
abbrev pub third_allows : RephMode → Item → Bool
third_allows Implicit third = not (is_joiner third)
third_allows Explicit third = category third == CAT_ZWJ
third_allows Encoded third = false

abbrev pub may_begin_reph : Facts → List Item → Bool
may_begin_reph facts items =
    not (facts.masks.rphf == 0) && nat_le 3 (length items) && third_allows facts.config.reph_mode (item_at items 2)

abbrev pub is_explicit : RephMode → Bool
is_explicit Implicit = false
is_explicit Explicit = true
is_explicit Encoded = false

abbrev pub is_encoded : RephMode → Bool
is_encoded Implicit = false
is_encoded Explicit = false
is_encoded Encoded = true

-- the font makes a reph of the first two glyphs, or of three where ZWJ belongs to it
abbrev pub makes_reph : LookupMeaning → Facts → List Item → Bool
makes_reph lookups facts items =
    would lookups facts RPHF (glyph_at items 0 ∷ glyph_at items 1 ∷ [])
    || (is_explicit facts.config.reph_mode && would lookups facts RPHF (glyph_at items 0 ∷ glyph_at items 1 ∷ glyph_at items 2 ∷ []))

abbrev pub begins_with_repha : Facts → List Item → Bool
begins_with_repha facts items = is_encoded facts.config.reph_mode && (nat_le 1 (length items) && (category (item_at items 0) == CAT_REPHA))

-- the place behind the reph, 0 if there is none
abbrev pub reph_limit : LookupMeaning → Facts → List Item → ℕ
reph_limit lookups facts items =
    if may_begin_reph facts items then (if makes_reph lookups facts items then after_joiners items 2 else 0)
    else if begins_with_repha facts items then after_joiners items 1
    else 0

-- "a consonant .. that does not have a below-base or post-base form (post-base forms have to follow below-base forms)"
abbrev pub has_no_form : (seen_below : Bool) → Item → Bool
has_no_form seen_below item =
    not (position item == POS_BELOW_C) && (not (position item == POS_POST_C) || seen_below)

abbrev pub is_below : Item → Bool
is_below item = is_consonant item && (position item == POS_BELOW_C)

-- "A ZWJ after a Halant stops the base search, and requests an explicit half form."
abbrev pub asks_for_half : List Item → ℕ → Bool
asks_for_half items i =
    nat_lt 0 i && (category (item_at items i) == CAT_ZWJ) && (category (item_at items (i - 1)) == CAT_H)

-- the search ends at this place
abbrev pub ends_search : List Item → (limit : ℕ) → (seen_below : Bool) → ℕ → Bool
ends_search items limit seen_below i =
    nat_le i limit
    || (if is_consonant (item_at items i) then has_no_form seen_below (item_at items i) else asks_for_half items i)

-- the base so far
abbrev pub base_at : List Item → ℕ → ℕ → ℕ
base_at items base i = if is_consonant (item_at items i) then i else base

abbrev pub seen_at : List Item → Bool → ℕ → Bool
seen_at items seen_below i = seen_below || is_below (item_at items i)

-- "starting from the end of the syllable, move backwards until a consonant is found .. or arrives at the first consonant"
abbrev pub base_from : List Item → (limit : ℕ) → (seen_below : Bool) → (base left : ℕ) → ℕ
base_from items limit seen_below base zero = base
base_from items limit seen_below base (suc i) =
    if ends_search items limit seen_below i then base_at items base i
    else base_from items limit (seen_at items seen_below i) (base_at items base i) i

-- the base if the search begins behind this place: Ra of a reph if there is nothing else, and the end without a reph
abbrev pub base_beyond : List Item → (limit : ℕ) → ℕ
base_beyond items limit = base_from items limit false (if limit == 0 then length items else 0) (length items)

-- "If the syllable starts with Ra + Halant .. and has more than one consonant, Ra is excluded from candidates for base consonants"
abbrev pub base_by : List Item → (limit : ℕ) → Base
base_by items limit =
    let base = base_beyond items limit in
    record { base = base; has_reph = not (limit == 0) && not ((base == 0) && nat_le limit 2) }

abbrev pub find_base : LookupMeaning → Facts → List Item → Base
find_base lookups facts items = base_by items (reph_limit lookups facts items)
