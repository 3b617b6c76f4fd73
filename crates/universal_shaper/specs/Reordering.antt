-- The order of a syllable.
use Rattle.std.specs.Prelude.{ℕ, zero, suc, ◌+◌, ◌-◌, ◌==◌, ◌&&◌, ◌||◌, not, nat_le, nat_lt, Bool, if◌then◌else◌, List, slice_range, Some}
use Rattle.std.specs.List.{prefix_len, suffix_len}
use Rattle.shape_common.specs.Face.{FaceMeaning}
use Rattle.shape_items.specs.Buffer.{Buffer}
use Rattle.shape_items.specs.Items.{Item}
use Rattle.syllables.specs.UniversalCategories.{B, H, IS, HVM, R, VPre, VMPre, MPre, VAbv, VMPst, FMAbv, FMPst}
use Rattle.syllabic.specs.Circles.{with_circles}
use Rattle.syllabic.specs.Moving.{run_brought_before, sent_after}
use Rattle.syllabic.specs.Walking.{item_at, category_of, syllable_of, kind_of_byte, at_syllable, each_syllable, OfSyllable}
use Rattle.syllabic.specs.declared.circles.Circled.{Circled}

-- a halant, unless lookups have joined it
abbrev pub is_halant_category : ℕ → Bool
is_halant_category category = (category == H) || (category == HVM) || (category == IS)

abbrev pub is_halant : Item → Bool
is_halant item = not item.properties.ligated && is_halant_category (category_of item)

-- finals, medials, vowels and their modifiers: VPre, VMPre, FAbv to FPst, MAbv to MPre; VAbv to VPst, VMAbv to VMPst; FMAbv to FMPst
abbrev pub follows_base : ℕ → Bool
follows_base category =
    (nat_le VPre category && nat_le category MPre) || (nat_le VAbv category && nat_le category VMPst)
    || (nat_le FMAbv category && nat_le category FMPst)

abbrev pub is_before : Item → Bool
is_before item = not (follows_base (category_of item)) && not (is_halant item)

abbrev pub count_base : List Item → ℕ
count_base items = prefix_len is_before items

-- a sign for a repha goes behind the items that neither follow the base nor are halants
abbrev pub repha_moved : OfSyllable
repha_moved b start end =
    if category_of (item_at b.items start) == R
    then sent_after start (start + count_base (slice_range b.items (start + 1) end)) b else b

-- VPre and VMPre; of the glyphs that one lookup has made of it the first one
abbrev pub goes_first : Item → Bool
goes_first item = ((category_of item == VPre) || (category_of item == VMPre)) && (item.properties.ligature_component == 0)

-- an item that goes first, if the next one of its syllable doesn't
abbrev pub ends_run : (end i : ℕ) → List Item → Bool
ends_run end i items = goes_first (item_at items i) && not (nat_lt (i + 1) end && goes_first (item_at items (i + 1)))

abbrev pub count_first : List Item → ℕ
count_first items = suffix_len goes_first items

-- a run of items that go first goes to the front at its end, the last one first
abbrev pub moved_at : (end front i : ℕ) → Buffer → Buffer
moved_at end front i b =
    if is_halant (item_at b.items i) then b
    else if nat_lt front i && ends_run end i b.items
    then run_brought_before front (i + 1 - count_first (slice_range b.items front (i + 1))) (i + 1) b else b

-- the front is after a halant
abbrev pub front_at : (front i : ℕ) → Buffer → ℕ
front_at front i b = if is_halant (item_at b.items i) then i + 1 else front

abbrev pub moved_next : (end i : ℕ) → Buffer × ℕ → Buffer × ℕ
moved_next end i (b, front) = (moved_at end front i b, front_at front i b)

abbrev pub moved_to : (start end count : ℕ) → Buffer → Buffer × ℕ
moved_to start end zero b = (b, start)
moved_to start end (suc k) b = moved_next end (start + k) (moved_to start end k b)

abbrev pub first_moved : OfSyllable
first_moved b start end = (moved_to start end (end - start) b).0

-- clusters that end in a virama (0) or sakot (1), standard ones (2), symbols (5) and broken ones (7)
abbrev pub is_reordered : ℕ → Bool
is_reordered byte = nat_le (kind_of_byte byte) 2 || (kind_of_byte byte == 5) || (kind_of_byte byte == 7)

abbrev pub reordered : OfSyllable
reordered b start end =
    if is_reordered (syllable_of (item_at b.items start)) then first_moved (repha_moved b start end) start end else b

-- a syllable has an item at least
abbrev pub reordered_some : OfSyllable
reordered_some b start end = if nat_lt start end then reordered b start end else b

abbrev pub reordered_at : ℕ → Buffer → Buffer
reordered_at i b = at_syllable reordered_some i b

abbrev pub each_reordered : Buffer → Buffer
each_reordered b = each_syllable reordered_some b

-- broken syllables (7) get a circle as a base, after a sign for a repha
abbrev pub circled : Circled
circled = record { kind = 7; category = B; repha = Some R }

abbrev pub all_reordered : FaceMeaning → Buffer → Buffer
all_reordered face b = each_reordered (with_circles face circled b)
