-- Vowels before the base, which a sorted syllable begins with: the last one is drawn first.
use Rattle.std.specs.Prelude.{ℕ, zero, suc, ◌+◌, ◌==◌, nat_lt, Bool, if◌then◌else◌, slice_range}
use Rattle.std.specs.List.{prefix_len}
use Rattle.shape_items.specs.Buffer.{Buffer}
use Rattle.shape_items.specs.BufferClusters.{merge_clusters}
use Rattle.shape_items.specs.Items.{Item}
use Rattle.syllabic.specs.Moving.{reversed}
use Rattle.syllabic.specs.Walking.{item_at, category_of, OfSyllable}
use Rattle.syllables.specs.IndicCategories.{VPre}

abbrev pub place_of : Item → ℕ
place_of item = item.properties.shaper_auxiliary

-- vowels before the base and their selectors have position 2
abbrev pub is_pre_vowel : Item → Bool
is_pre_vowel item = place_of item == 2

-- a vowel before the base
abbrev pub is_vowel : ℕ → Buffer → Bool
is_vowel i b = category_of (item_at b.items i) == VPre

-- of reversed items a vowel ends its group, which began at `from`
abbrev pub turned_at : (start from k : ℕ) → Buffer → Buffer
turned_at start from k b = if is_vowel (start + k) b then reversed (start + from) (start + k + 1) b else b

abbrev pub from_after : (start from k : ℕ) → Buffer → ℕ
from_after start from k b = if is_vowel (start + k) b then k + 1 else from

abbrev pub turned_next : (start k : ℕ) → Buffer × ℕ → Buffer × ℕ
turned_next start k (b, from) = (turned_at start from k b, from_after start from k b)

abbrev pub turned_to : (start count : ℕ) → Buffer → Buffer × ℕ
turned_to start zero b = (b, 0)
turned_to start (suc k) b = turned_next start k (turned_to start k b)

abbrev pub groups_turned : (start count : ℕ) → Buffer → Buffer
groups_turned start count b = (turned_to start count b).0

-- all of them reversed, and then each group
abbrev pub run_turned : (start count : ℕ) → Buffer → Buffer
run_turned start count b = groups_turned start count (reversed start (start + count) (merge_clusters start (start + count) b))

abbrev pub vowels_turned : OfSyllable
vowels_turned b start end =
    let count = prefix_len is_pre_vowel (slice_range b.items start end) in
    if nat_lt 1 count then run_turned start count b else b
