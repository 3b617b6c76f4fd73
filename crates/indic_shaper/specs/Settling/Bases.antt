-- Where the base stands once lookups have made the basic forms.
--
-- The specification finds it once, before any lookup. HarfBuzz finds it again by the positions that it noted then, since lookups have
-- joined some items and left others as they were.
use Rattle.std.specs.Prelude.{ℕ, zero, suc, ◌+◌, ◌-◌, ◌==◌, ◌&&◌, ◌||◌, not, nat_lt, Bool, false, if◌then◌else◌, List, set, slice_range}
use Rattle.std.specs.List.{prefix_len, suffix_len}
use Rattle.std.specs.Int.RustNames.{bit_and}
use Rattle.shape_items.specs.Buffer.{Buffer}
use Rattle.shape_items.specs.Items.{Item}
use Rattle.shape_buffer.specs.Walks.{items_mapped}
use Rattle.syllabic.specs.Walking.{item_at}
use Rattle.indic_shaper.specs.Glyphs.{position, with_position, is_consonant, is_joiner, is_halant, is_of, is_ligature}
use Rattle.indic_shaper.specs.declared.config.TheConstants.{MALAYALAM}
use Rattle.indic_shaper.specs.declared.engine.Facts.{Facts}
use Rattle.indic_shaper.specs.declared.settling.base.Below.{Below}
use Rattle.indic_shaper.specs.declared.settling.base.Spot.{Spot}

-- a virama that lookups have joined to something and then taken off again
abbrev pub is_lost : ℕ → Item → Bool
is_lost virama item = (item.glyph_id == virama) && (item.properties.ligated && item.properties.multiplied)

-- it is a Halant (4) again
abbrev pub as_halant : Item → Item
as_halant item = record item { properties = record item.properties { shaper_category = 4; ligated = false; multiplied = false } }

abbrev pub mended : ℕ → Item → Item
mended virama item = if is_lost virama item then as_halant item else item

-- of a font without a virama (0) nothing is known
abbrev pub viramas_mended : ℕ → Buffer → Buffer
viramas_mended virama b = if virama == 0 then b else items_mapped (mended virama) b

-- ---- the first item that doesn't stand before the base (4)

abbrev pub is_before_base : Item → Bool
is_before_base item = nat_lt (position item) 4

abbrev pub first_base : List Item → (start end : ℕ) → ℕ
first_base items start end = start + prefix_len is_before_base (slice_range items start end)

-- ---- a consonant that asked for a form before the base

abbrev pub asks_not : ℕ → Item → Bool
asks_not mask item = bit_and item.mask mask == 0

-- the first one from a place on; `end` if there is none
abbrev pub asking_from : ℕ → List Item → (from end : ℕ) → ℕ
asking_from mask items from end = from + prefix_len (asks_not mask) (slice_range items from end)

-- a lookup has made that form
abbrev pub is_formed : Item → Bool
is_formed item = item.properties.substituted && is_ligature item

-- whether the first one after the base has none: then it, or what is after its Halants, is the base
abbrev pub is_unformed : ℕ → List Item → (base end : ℕ) → Bool
is_unformed mask items base end =
    nat_lt base end
    && (nat_lt (asking_from mask items (base + 1) end) end && not (is_formed (item_at items (asking_from mask items (base + 1) end))))

abbrev pub after_halants : List Item → (from end : ℕ) → ℕ
after_halants items from end = from + prefix_len is_halant (slice_range items from end)

abbrev pub base_at : Bool → ℕ → List Item → (base end : ℕ) → ℕ
base_at unformed mask items base end =
    if unformed then after_halants items (asking_from mask items (base + 1) end) end else base

-- an item is noted as a base (4)
abbrev pub placed : ℕ → Buffer → Buffer
placed i b = record b { items = set b.items i (with_position (item_at b.items i) 4) }

abbrev pub placed_if : Bool → (i end : ℕ) → Buffer → Buffer
placed_if unformed i end b = if unformed && nat_lt i end then placed i b else b

-- ---- Malayalam: the base is behind consonants that asked for a form below it and have none

abbrev pub after_joiners : List Item → (from end : ℕ) → ℕ
after_joiners items from end = from + prefix_len is_joiner (slice_range items from end)

abbrev pub has_halant : List Item → (i end : ℕ) → Bool
has_halant items i end = nat_lt i end && is_halant (item_at items i)

-- the letter after a Halant, with joiners before and after that; `end` if no Halant follows
abbrev pub letter_from : List Item → (from end : ℕ) → ℕ
letter_from items from end =
    let halant = after_joiners items from end in
    if has_halant items halant end then after_joiners items (halant + 1) end else end

-- a consonant that asked for a form below the base (8)
abbrev pub is_below : Item → Bool
is_below item = is_consonant item && (position item == 8)

abbrev pub below_at : List Item → (i end : ℕ) → Bool
below_at items i end = nat_lt i end && is_below (item_at items i)

-- the base, and from where on the next letter is looked for
abbrev pub below_after : ℕ → List Item → Below → Below
below_after end items below =
    let i = letter_from items below.from end in
    record { base = if below_at items i end then i else below.base; from = if nat_lt i end then i + 1 else end }

abbrev pub below_placed : ℕ → Below → Buffer → Buffer
below_placed end below b =
    let i = letter_from b.items below.from end in if below_at b.items i end then placed i b else b

abbrev pub below_next : ℕ → Buffer × Below → Buffer × Below
below_next end (b, below) = (below_placed end below b, below_after end b.items below)

abbrev pub below_to : (base end n : ℕ) → Buffer → Buffer × Below
below_to base end zero b = (b, record { base = base; from = base + 1 })
below_to base end (suc k) b = below_next end (below_to base end k b)

-- there are no more letters than items after the base
abbrev pub below_skipped : (base end : ℕ) → Buffer → Buffer × Below
below_skipped base end b = below_to base end (end - (base + 1)) b

-- ---- the item before a base that belongs to what follows

-- an item past the base: it is the one before
abbrev pub stepped_back : List Item → (start base : ℕ) → ℕ
stepped_back items start base = if nat_lt start base && nat_lt 4 (position (item_at items base)) then base - 1 else base

-- nuktas (3) and Halants (4) are no base
abbrev pub is_sign : Item → Bool
is_sign item = is_of item 3 || is_of item 4

abbrev pub before_signs : List Item → (start base : ℕ) → ℕ
before_signs items start base = base - suffix_len is_sign (slice_range items (start + 1) (base + 1))

-- where no base was found: a ZWJ (6) that the syllable ends with
abbrev pub joiner_before : List Item → (start end : ℕ) → ℕ
joiner_before items start end = if nat_lt start end && is_of (item_at items (end - 1)) 6 then end - 1 else end

abbrev pub settled_base : List Item → (start end base : ℕ) → ℕ
settled_base items start end base =
    if nat_lt base end then before_signs items start (stepped_back items start base) else joiner_before items start end

-- ---- the whole

-- Malayalam by its tag
abbrev pub below_skipped_if : Bool → (base end : ℕ) → Buffer → Buffer × ℕ
below_skipped_if malayalam base end b =
    if malayalam then ((below_skipped base end b).0, (below_skipped base end b).1.base) else (b, base)

abbrev pub spot_of : (start end : ℕ) → Bool → Buffer × ℕ → Buffer × Spot
spot_of start end unformed (b, base) = (b, record { base = settled_base b.items start end base; try_pref = not unformed })

abbrev pub found : Facts → (start end : ℕ) → Buffer → Buffer × Spot
found facts start end b =
    let first = first_base b.items start end in
    let unformed = is_unformed facts.masks.pref b.items first end in
    let base = base_at unformed facts.masks.pref b.items first end in
    spot_of start end unformed (below_skipped_if (facts.tag == MALAYALAM) base end (placed_if unformed base end b))
