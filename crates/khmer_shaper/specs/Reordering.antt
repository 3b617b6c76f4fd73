-- The order of a syllable.
use Rattle.std.specs.Prelude.{ℕ, zero, suc, ◌+◌, ◌-◌, ◌==◌, ◌&&◌, nat_le, nat_lt, Bool, false, if◌then◌else◌, List, set, None}
use Rattle.std.specs.Int.RustNames.{bit_or}
use Rattle.shape_common.specs.Face.{FaceMeaning}
use Rattle.shape_items.specs.Buffer.{Buffer}
use Rattle.shape_items.specs.Items.{Item}
use Rattle.syllabic.specs.Circles.{with_circles}
use Rattle.syllabic.specs.Moving.{brought_before, reversed, run_brought_before}
use Rattle.syllabic.specs.Walking.{item_at, category_of, syllable_of, kind_of_byte, at_syllable, each_syllable, OfSyllable}
use Rattle.syllabic.specs.declared.circles.Circled.{Circled}
use Rattle.syllables.specs.IndicCategories.{H, Ra, VPre, DOTTED_CIRCLE}
use Rattle.khmer_shaper.specs.declared.reordering.KhmerMasks.{KhmerMasks}
use Rattle.khmer_shaper.specs.declared.reordering.Seen.{Seen}

abbrev pub with_mask : ℕ → Item → Item
with_mask mask item = record item { mask = bit_or item.mask mask }

abbrev pub mask_added : ℕ → ℕ → Buffer → Buffer
mask_added mask i b = record b { items = set b.items i (with_mask mask (item_at b.items i)) }

-- a mask for so many items
abbrev pub masks_added : ℕ → (start count : ℕ) → Buffer → Buffer
masks_added mask start zero b = b
masks_added mask start (suc k) b = mask_added mask (start + k) (masks_added mask start k b)

abbrev pub has_category : ℕ → Item → Bool
has_category category item = category_of item == category

-- ---- pairs of COENG and RO

-- a pair that a reversal has turned round stands as it did: COENG, which is the second of two items then, goes first
abbrev pub turned_at : (i : ℕ) → Buffer → Buffer
turned_at i b = if has_category H (item_at b.items (i + 1)) then reversed i (i + 2) b else b

-- of the first items from a place on
abbrev pub turned : (start count : ℕ) → Buffer → Buffer
turned start zero b = b
turned start (suc k) b = turned_at (start + k) (turned start k b)

-- pairs from a place up to the one at another place get their mask, and what stands after the first one gets its own; then they go to the
-- front, the last one first
abbrev pub ros_moved : KhmerMasks → (start end from i : ℕ) → Buffer → Buffer
ros_moved masks start end from i b =
    turned start (i + 1 - from) (run_brought_before start from (i + 2)
    (masks_added masks.after_ro (from + 2) (end - (from + 2)) (masks_added masks.prebase from (i + 2 - from) b)))

-- COENG, of which at most three are looked at, before an item of the syllable
abbrev pub is_coeng : (end coengs i : ℕ) → List Item → Bool
is_coeng end coengs i items = has_category H (item_at items i) && nat_le coengs 2 && nat_lt (i + 1) end

abbrev pub is_ro : ℕ → List Item → Bool
is_ro i items = has_category Ra (item_at items (i + 1))

abbrev pub is_pair : (end i : ℕ) → List Item → Bool
is_pair end i items = nat_lt (i + 1) end && has_category H (item_at items i) && has_category Ra (item_at items (i + 1))

-- whether one more stands right after the one at a place
abbrev pub pair_follows : (end i : ℕ) → List Item → Bool
pair_follows end i items = nat_lt (i + 2) end && is_pair end (i + 2) items

-- where the pairs begin that stand one after the other up to the one at a place
abbrev pub from_of : Seen → (start i : ℕ) → ℕ
from_of seen start i = if seen.waits && nat_le start seen.from && nat_le seen.from i then seen.from else i

-- pairs wait for the last one, and move together
abbrev pub pair_moved : KhmerMasks → (start end : ℕ) → Seen → (i : ℕ) → Buffer → Buffer
pair_moved masks start end seen i b =
    if pair_follows end i b.items then b else ros_moved masks start end (from_of seen start i) i b

abbrev pub moved_at : KhmerMasks → (start end : ℕ) → Seen → (i : ℕ) → Buffer → Buffer
moved_at masks start end seen i b =
    if is_coeng end seen.coengs i b.items then if is_ro i b.items then pair_moved masks start end seen i b else b
    else if has_category VPre (item_at b.items i) then brought_before start i b else b

-- COENG with RO counts as the second one
abbrev pub seen_in : (start end : ℕ) → Seen → (i : ℕ) → List Item → Seen
seen_in start end seen i items =
    if is_coeng end seen.coengs i items then
    if is_ro i items then record { coengs = 2; waits = pair_follows end i items; from = from_of seen start i }
    else record { coengs = seen.coengs + 1; waits = false; from = seen.from }
    else seen

abbrev pub moved_next : KhmerMasks → (start end i : ℕ) → Buffer × Seen → Buffer × Seen
moved_next masks start end i (b, seen) = (moved_at masks start end seen i b, seen_in start end seen i b.items)

abbrev pub nothing_seen : Seen
nothing_seen = record { coengs = 0; waits = false; from = 0 }

abbrev pub moved_to : KhmerMasks → (start end count : ℕ) → Buffer → Buffer × Seen
moved_to masks start end zero b = (b, nothing_seen)
moved_to masks start end (suc k) b = moved_next masks start end (start + k + 1) (moved_to masks start end k b)

abbrev pub each_moved : KhmerMasks → OfSyllable
each_moved masks b start end = (moved_to masks start end (end - start - 1) b).0

-- of consonants, and broken ones
abbrev pub reordered : KhmerMasks → OfSyllable
reordered masks b start end =
    if nat_le (kind_of_byte (syllable_of (item_at b.items start))) 1
    then each_moved masks (masks_added masks.after_base (start + 1) (end - (start + 1)) b) start end else b

abbrev pub reordered_some : KhmerMasks → OfSyllable
reordered_some masks b start end = if nat_lt start end then reordered masks b start end else b

abbrev pub reordered_at : KhmerMasks → ℕ → Buffer → Buffer
reordered_at masks i b = at_syllable (reordered_some masks) i b

abbrev pub each_reordered : KhmerMasks → Buffer → Buffer
each_reordered masks b = each_syllable (reordered_some masks) b

-- broken syllables (1) get a circle
abbrev pub circled : Circled
circled = record { kind = 1; category = DOTTED_CIRCLE; repha = None }

abbrev pub all_reordered : FaceMeaning → KhmerMasks → Buffer → Buffer
all_reordered face masks b = each_reordered masks (with_circles face circled b)
