-- what the shaper of Myanmar does at its pauses leaves what lookups may ask for as it is
use Rattle.std.proofs.Common.{ℕ, zero, suc, ◌+◌, ◌-◌, ◌==◌, nat_le, nat_lt, slice_range, refl, ◌∙◌}
use Rattle.std.specs.List.{prefix_len}
use Rattle.shape_common.specs.Face.{FaceMeaning}
use Rattle.shape_items.specs.Buffer.{Buffer}
use Rattle.shape_items.specs.BufferClusters.{merge_clusters}
use Rattle.syllables.specs.Grammar.{first_syllable}
use Rattle.syllables.specs.MyanmarGrammar.{myanmar_grammar}
use Rattle.syllabic.specs.Categories.{categorized, with_category}
use Rattle.syllabic.specs.Circles.{with_circles}
use Rattle.syllabic.specs.Moving.{brought_before, reversed}
use Rattle.syllabic.specs.Walking.{item_at, syllable_of, kind_of_byte, marked}
use Rattle.myanmar_shaper.specs.Pauses.{made_by_pause}
use Rattle.myanmar_shaper.specs.Places.{frame_of, placed_to, each_placed}
use Rattle.myanmar_shaper.specs.Reordering.{count_past, sorted_at, sorted_to, sorted, reordered, reordered_some, circled, all_reordered}
use Rattle.myanmar_shaper.specs.Syllables.{numbered, found}
use Rattle.myanmar_shaper.specs.Turning.{is_vowel, is_pre_vowel, turned_at, turned_to, run_turned, vowels_turned}
use Rattle.myanmar_shaper.specs.declared.places.Frame.{Frame}
use Rattle.font_shaping.proofs.SameWorkLemmas.{Same, Stays, same-if, same-unchanged, stays-if, same-merge, same-mapped}
use Rattle.font_shaping.proofs.Hooks.SyllableLemmas.{StaysIn, same-each, stays-marked, same-numbered, same-circles, same-brought_before}

same-found : Stays found
same-found b =
    let one = categorized b in
    same-each marked stays-marked (numbered one) ∙ same-numbered (first_syllable myanmar_grammar 2) 0 one ∙ same-mapped with_category b

same-placed_to : (frame : Frame) (start count : ℕ) (b : Buffer) → Same b (placed_to frame start count b).0
same-placed_to frame start zero b = refl
same-placed_to frame start (suc k) b = same-placed_to frame start k b

same-sorted_at : (start i : ℕ) → Stays (sorted_at start i)
same-sorted_at start i b =
    let count = count_past start i b.items in
    same-if (count == 0) b b (brought_before (i - count) i b) refl (same-brought_before (i - count) i b)

same-sorted_to : (start count : ℕ) → Stays (sorted_to start count)
same-sorted_to start zero b = refl
same-sorted_to start (suc k) b = same-sorted_at start (start + k) (sorted_to start k b) ∙ same-sorted_to start k b

same-turned_at : (start from k : ℕ) → Stays (turned_at start from k)
same-turned_at start from k b = same-if (is_vowel (start + k) b) b (reversed (start + from) (start + k + 1) b) b refl refl

same-turned_to : (start count : ℕ) (b : Buffer) → Same b (turned_to start count b).0
same-turned_to start zero b = refl
same-turned_to start (suc k) b = same-turned_at start (turned_to start k b).1 k (turned_to start k b).0 ∙ same-turned_to start k b

stays-turned : StaysIn vowels_turned
stays-turned b start end =
    let count = prefix_len is_pre_vowel (slice_range b.items start end) in
    let merged = merge_clusters start (start + count) b in
    same-if (nat_lt 1 count) b (run_turned start count b) b
    (same-turned_to start count (reversed start (start + count) merged) ∙ same-merge start (start + count) b) refl

stays-reordered : StaysIn reordered
stays-reordered b start end =
    let placed = each_placed b start end in
    let in_order = sorted placed start end in
    same-if (nat_le (kind_of_byte (syllable_of (item_at b.items start))) 1) b (vowels_turned in_order start end) b
    (stays-turned in_order start end ∙ same-sorted_to start (end - start) placed
    ∙ same-placed_to (frame_of (slice_range b.items start end)) start (end - start) b) refl

stays-reordered_some : StaysIn reordered_some
stays-reordered_some b start end = same-if (nat_lt start end) b (reordered b start end) b (stays-reordered b start end) refl

same-reordered : (face : FaceMeaning) → Stays (all_reordered face)
same-reordered face b = same-each reordered_some stays-reordered_some (with_circles face circled b) ∙ same-circles face circled b

pub same-myanmar_pause : (n : ℕ) (face : FaceMeaning) → Stays (made_by_pause n face)
same-myanmar_pause n face = stays-if (n == 1) _ _ same-found (stays-if (n == 2) _ _ (same-reordered face) same-unchanged)
