-- what the shaper of Khmer does at its pauses leaves what lookups may ask for as it is
use Rattle.std.proofs.Common.{ℕ, zero, suc, ◌+◌, ◌-◌, ◌==◌, nat_le, nat_lt, if◌then◌else◌, refl, ◌∙◌}
use Rattle.shape_common.specs.Face.{FaceMeaning}
use Rattle.shape_items.specs.Buffer.{Buffer}
use Rattle.shape_buffer.specs.Layout.{MapMeaning}
use Rattle.syllables.specs.Grammar.{first_syllable}
use Rattle.syllables.specs.IndicCategories.{H, VPre}
use Rattle.syllables.specs.KhmerGrammar.{khmer_grammar}
use Rattle.syllabic.specs.Categories.{categorized, with_category}
use Rattle.syllabic.specs.Circles.{with_circles}
use Rattle.syllabic.specs.Moving.{brought_before, reversed, run_brought_before}
use Rattle.syllabic.specs.Walking.{item_at, syllable_of, kind_of_byte, marked}
use Rattle.khmer_shaper.specs.Pauses.{khmer_masks, made_by_pause}
use Rattle.khmer_shaper.specs.Reordering.{masks_added, has_category, turned_at, turned, ros_moved, is_coeng, is_ro, pair_follows, from_of, pair_moved, moved_at, moved_to, each_moved, reordered, reordered_some, circled, all_reordered}
use Rattle.khmer_shaper.specs.Syllables.{numbered, found}
use Rattle.khmer_shaper.specs.declared.reordering.KhmerMasks.{KhmerMasks}
use Rattle.khmer_shaper.specs.declared.reordering.Seen.{Seen}
use Rattle.font_shaping.proofs.SameWorkLemmas.{Same, Stays, same-if, same-unchanged, stays-if, same-mapped}
use Rattle.font_shaping.proofs.Hooks.SyllableLemmas.{StaysIn, same-each, stays-marked, same-numbered, same-circles, same-brought_before, same-run_brought}

same-found : Stays found
same-found b =
    let one = categorized b in
    same-each marked stays-marked (numbered one) ∙ same-numbered (first_syllable khmer_grammar 2) 0 one ∙ same-mapped with_category b

same-masks : (mask start count : ℕ) → Stays (masks_added mask start count)
same-masks mask start zero b = refl
same-masks mask start (suc k) b = same-masks mask start k b

same-turned_at : (i : ℕ) → Stays (turned_at i)
same-turned_at i b = same-if (has_category H (item_at b.items (i + 1))) b (reversed i (i + 2) b) b refl refl

same-turned : (start count : ℕ) → Stays (turned start count)
same-turned start zero b = refl
same-turned start (suc k) b = same-turned_at (start + k) (turned start k b) ∙ same-turned start k b

same-ros_moved : (masks : KhmerMasks) (start end from i : ℕ) → Stays (ros_moved masks start end from i)
same-ros_moved masks start end from i b =
    let one = masks_added masks.prebase from (i + 2 - from) b in
    let two = masks_added masks.after_ro (from + 2) (end - (from + 2)) one in
    let three = run_brought_before start from (i + 2) two in
    same-turned start (i + 1 - from) three ∙ same-run_brought start from (i + 2) two
    ∙ same-masks masks.after_ro (from + 2) (end - (from + 2)) one ∙ same-masks masks.prebase from (i + 2 - from) b

same-pair_moved : (masks : KhmerMasks) (start end : ℕ) (seen : Seen) (i : ℕ) → Stays (pair_moved masks start end seen i)
same-pair_moved masks start end seen i b =
    let from = from_of seen start i in
    same-if (pair_follows end i b.items) b b (ros_moved masks start end from i b) refl (same-ros_moved masks start end from i b)

same-moved_at : (masks : KhmerMasks) (start end : ℕ) (seen : Seen) (i : ℕ) → Stays (moved_at masks start end seen i)
same-moved_at masks start end seen i b =
    let pair = pair_moved masks start end seen i b in
    let first = brought_before start i b in
    let goes = has_category VPre (item_at b.items i) in
    same-if (is_coeng end seen.coengs i b.items) b (if is_ro i b.items then pair else b) (if goes then first else b)
    (same-if (is_ro i b.items) b pair b (same-pair_moved masks start end seen i b) refl)
    (same-if goes b first b (same-brought_before start i b) refl)

same-moved_to : (masks : KhmerMasks) (start end count : ℕ) (b : Buffer) → Same b (moved_to masks start end count b).0
same-moved_to masks start end zero b = refl
same-moved_to masks start end (suc k) b =
    same-moved_at masks start end (moved_to masks start end k b).1 (start + k + 1) (moved_to masks start end k b).0
    ∙ same-moved_to masks start end k b

stays-reordered : (masks : KhmerMasks) → StaysIn (reordered masks)
stays-reordered masks b start end =
    let masked = masks_added masks.after_base (start + 1) (end - (start + 1)) b in
    same-if (nat_le (kind_of_byte (syllable_of (item_at b.items start))) 1) b (each_moved masks masked start end) b
    (same-moved_to masks start end (end - start - 1) masked ∙ same-masks masks.after_base (start + 1) (end - (start + 1)) b) refl

stays-reordered_some : (masks : KhmerMasks) → StaysIn (reordered_some masks)
stays-reordered_some masks b start end =
    same-if (nat_lt start end) b (reordered masks b start end) b (stays-reordered masks b start end) refl

same-reordered : (face : FaceMeaning) (masks : KhmerMasks) → Stays (all_reordered face masks)
same-reordered face masks b =
    same-each (reordered_some masks) (stays-reordered_some masks) (with_circles face circled b) ∙ same-circles face circled b

pub same-khmer_pause : (n : ℕ) (map : MapMeaning) (face : FaceMeaning) → Stays (made_by_pause n map face)
same-khmer_pause n map face =
    stays-if (n == 1) _ _ same-found (stays-if (n == 2) _ _ (same-reordered face (khmer_masks map)) same-unchanged)
