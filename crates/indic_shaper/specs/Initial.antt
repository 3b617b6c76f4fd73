-- The first pause: each syllable in the order that lookups want, with the masks of the forms that its letters may take.
use Rattle.std.specs.Prelude.{ℕ, ◌+◌, ◌==◌, ◌&&◌, ◌||◌, nat_le, nat_lt, Bool, List, ◌++◌, length, take, drop}
use Rattle.std.specs.Prelude.{slice_range, if◌then◌else◌}
use Rattle.shape_common.specs.Face.{FaceMeaning}
use Rattle.shape_buffer.specs.Layout.{LookupMeaning}
use Rattle.shape_items.specs.Buffer.{Buffer}
use Rattle.shape_items.specs.BufferClusters.{merge_clusters}
use Rattle.shape_items.specs.Items.{Item}
use Rattle.syllabic.specs.Circles.{with_circles}
use Rattle.syllabic.specs.Moving.{exchanged}
use Rattle.syllabic.specs.Walking.{OfSyllable, each_syllable, item_at, kind_of_byte, syllable_of}
use Rattle.indic_shaper.specs.Attaching.{positioned}
use Rattle.indic_shaper.specs.Bases.{find_base}
use Rattle.indic_shaper.specs.Consonants.{letters_placed}
use Rattle.indic_shaper.specs.Cutting.{circled}
use Rattle.indic_shaper.specs.Glyphs.{is_of}
use Rattle.indic_shaper.specs.Masking.{all_masked}
use Rattle.indic_shaper.specs.Sorting.{sorted, moves, base_in, moved_merged}
use Rattle.indic_shaper.specs.declared.categories.TheConstants.{CAT_H, CAT_RA, CAT_ZWJ}
use Rattle.indic_shaper.specs.declared.config.TheConstants.{KANNADA}
use Rattle.indic_shaper.specs.declared.cutting.TheConstants.{CONSONANT, VOWEL, STANDALONE, BROKEN}
use Rattle.indic_shaper.specs.declared.engine.Facts.{Facts}
use Rattle.indic_shaper.specs.declared.initial.arranging.Arrangement.{Arrangement}

-- ---- one syllable: what its items become, the order that they took, and where the base stands then

pub record Ordering : Type 0 where
  pub items : List Item
  pub order : List ℕ
  pub base : ℕ

abbrev pub ordering_of : Arrangement → Ordering
ordering_of o = record { items = o.items.items; order = o.order.items; base = o.base }

abbrev pub ordering_sorted : (positioned : List Item) → Ordering
ordering_sorted items = record { items = sorted items; order = moves items; base = base_in (sorted items) }

abbrev pub ordering_by : LookupMeaning → Facts → (positioned : List Item) → Ordering
ordering_by lookups facts items =
    let o = ordering_sorted items in
    record { items = all_masked lookups facts o.base o.items; order = o.order; base = o.base }

abbrev pub positioned_placed : LookupMeaning → Facts → (placed : List Item) → List Item
positioned_placed lookups facts items = positioned facts (find_base lookups facts items) items

abbrev pub ordering : LookupMeaning → Facts → List Item → Ordering
ordering lookups facts items = ordering_by lookups facts (positioned_placed lookups facts (letters_placed lookups facts items))

-- ---- in the buffer

-- "For compatibility with legacy usage in Kannada, Ra+h+ZWJ must behave like Ra+ZWJ+h"
-- (https://github.com/harfbuzz/harfbuzz/issues/435#issuecomment-335560167)
abbrev pub has_joiner_last : Facts → List Item → (start end : ℕ) → Bool
has_joiner_last facts items start end =
    (facts.tag == KANNADA) && (nat_le (start + 3) end && (is_of (item_at items start) CAT_RA
    && (is_of (item_at items (start + 1)) CAT_H && is_of (item_at items (start + 2)) CAT_ZWJ)))

abbrev pub swapped_merged : (i : ℕ) → Buffer → Buffer
swapped_merged i b = exchanged i (i + 1) (merge_clusters i (i + 2) b)

abbrev pub joiner_swapped : Facts → OfSyllable
joiner_swapped facts b start end = if has_joiner_last facts b.items start end then swapped_merged (start + 1) b else b

-- a list in place of as many items
abbrev pub put_back : (start : ℕ) → List Item → Buffer → Buffer
put_back start items b = record b { items = take start b.items ++ (items ++ drop (start + length items) b.items) }

-- Clusters from the base on. "In old-spec mode, we move halants around, so in that case merge all clusters after base"; and in syllables
-- past 127 items, where no walk round what moved is made; else what moved is merged.
abbrev pub joined : Facts → (start : ℕ) → Ordering → Buffer → Buffer
joined facts start o b =
    if facts.is_old || nat_lt 127 (length o.items)
    then merge_clusters (start + o.base) (start + length o.items) b
    else moved_merged start o.base (length o.items) o.order b

abbrev pub put_in_order : Facts → (start : ℕ) → Ordering → Buffer → Buffer
put_in_order facts start o b = joined facts start o (put_back start o.items b)

abbrev pub ordered_from : LookupMeaning → Facts → OfSyllable
ordered_from lookups facts b start end = put_in_order facts start (ordering lookups facts (slice_range b.items start end)) b

-- syllables of consonants and vowels, placeholders and broken ones
abbrev pub is_ordered_kind : ℕ → Bool
is_ordered_kind kind = (kind == CONSONANT) || ((kind == VOWEL) || ((kind == STANDALONE) || (kind == BROKEN)))

abbrev pub syllable_ordered : LookupMeaning → Facts → OfSyllable
syllable_ordered lookups facts b start end =
    if is_ordered_kind (kind_of_byte (syllable_of (item_at b.items start)))
    then ordered_from lookups facts (joiner_swapped facts b start end) start end
    else b

-- ---- all of them, once broken syllables have their circles

abbrev pub each_ordered : LookupMeaning → Facts → Buffer → Buffer
each_ordered lookups facts b = each_syllable (syllable_ordered lookups facts) b

abbrev pub ordered : FaceMeaning → LookupMeaning → Facts → Buffer → Buffer
ordered face lookups facts b = each_ordered lookups facts (with_circles face circled b)
