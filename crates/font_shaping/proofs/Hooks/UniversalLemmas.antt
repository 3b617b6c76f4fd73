-- what the universal shaper does at its pauses leaves what lookups may ask for as it is
use Rattle.std.proofs.Common.{ℕ, zero, suc, ◌+◌, ◌-◌, ◌==◌, ◌&&◌, nat_lt, Bool, true, false, if◌then◌else◌, Option, drop, length, set, slice_range, refl, ◌∙◌}
use Rattle.shape_common.specs.Face.{FaceMeaning}
use Rattle.shape_common.specs.declared.text_types.Script.{Script}
use Rattle.shape_items.specs.Buffer.{Buffer}
use Rattle.shape_buffer.specs.Layout.{MapMeaning}
use Rattle.syllables.specs.Grammar.{first_syllable}
use Rattle.syllables.specs.UniversalCategories.{CGJ, ZWNJ, R, VPre}
use Rattle.syllables.specs.UniversalGrammar.{universal_grammar}
use Rattle.syllabic.specs.Circles.{with_circles}
use Rattle.syllabic.specs.Moving.{run_brought_before, sent_after}
use Rattle.syllabic.specs.Walking.{item_at, category_of, syllable_of, begins_at, end_of, marked}
use Rattle.universal_shaper.specs.Categories.{categorized, with_category}
use Rattle.universal_shaper.specs.Joining.{joins}
use Rattle.universal_shaper.specs.Masks.{masks_added, repha_count, repha_masked, rephas_masked, forms_set, joins_on, joined, has_forms, form_after, both_set, formed_at, formed_to, all_masks, all_forms_set}
use Rattle.universal_shaper.specs.Pauses.{form_masks, rephas_masked_if, forms_set_unless, set_up, rephas_recorded_if, made_by_pause}
use Rattle.universal_shaper.specs.Recording.{without_substitution, has_mask, count_before, category_set, repha_recorded, rephas_recorded, count_own, prebase_recorded}
use Rattle.universal_shaper.specs.Reordering.{is_halant, count_base, repha_moved, ends_run, count_first, moved_at, moved_to, first_moved, is_reordered, reordered, reordered_some, circled, all_reordered}
use Rattle.universal_shaper.specs.Syllables as syllables
use Rattle.universal_shaper.specs.Syllables.{mark_follows, skipped_at, skipped_to, joiners_skipped, count_skipped, numbered, found}
use Rattle.universal_shaper.specs.declared.masks.Form.{Form}
use Rattle.universal_shaper.specs.declared.masks.FormMasks.{FormMasks}
use Rattle.universal_shaper.specs.declared.masks.Formed.{Formed}
use Rattle.universal_shaper.specs.declared.requests.TheConstants.{RPHF}
use Rattle.font_shaping.proofs.SameWorkLemmas.{Same, Stays, same-if, same-unchanged, stays-if, same-mapped}
use Rattle.font_shaping.proofs.Hooks.SyllableLemmas.{StaysIn, same-each, stays-marked, same-numbered, same-circles, same-sent_after, same-run_brought}

-- ---- syllables

same-skipped_at : (i : ℕ) → Stays (skipped_at i)
same-skipped_at i b =
    same-if (category_of (item_at b.items i) == ZWNJ && mark_follows (drop (i + 1) b.items)) b
    (record b { items = set b.items i (syllables.with_category CGJ (item_at b.items i)) }) b refl refl

same-skipped_to : (n : ℕ) → Stays (skipped_to n)
same-skipped_to zero b = refl
same-skipped_to (suc i) b = same-skipped_at i (skipped_to i b) ∙ same-skipped_to i b

same-found : Stays found
same-found b =
    let one = categorized b in
    let two = joiners_skipped one in
    let three = numbered two in
    same-each marked stays-marked three ∙ same-numbered (first_syllable universal_grammar 8) (count_skipped two.items) two
    ∙ same-skipped_to (length one.items) one ∙ same-mapped with_category b

-- ---- masks

same-masks : (mask start count : ℕ) → Stays (masks_added mask start count)
same-masks mask start zero b = refl
same-masks mask start (suc k) b = same-masks mask start k b

same-rephas : (mask : ℕ) → Stays (rephas_masked_if mask)
same-rephas mask b =
    same-if (mask == 0) b b (rephas_masked mask b) refl
    (same-each (repha_masked mask) (λ c start end. same-masks mask start (repha_count (item_at c.items start) (end - start)) c) b)

same-forms_set : (masks : FormMasks) (form : Form) (start count : ℕ) → Stays (forms_set masks form start count)
same-forms_set masks form start zero b = refl
same-forms_set masks form start (suc k) b = same-forms_set masks form start k b

same-both_set : (masks : FormMasks) (before : Formed) (start end : ℕ) → Stays (both_set masks before start end)
same-both_set masks before start end b =
    let first = forms_set masks (joined before.form) before.start (start - before.start) b in
    let joined_on = if joins_on before.form then first else b in
    same-forms_set masks (form_after before.form) start (end - start) joined_on
    ∙ same-if (joins_on before.form) b first b (same-forms_set masks (joined before.form) before.start (start - before.start) b) refl

same-formed_at : (masks : FormMasks) (before : Formed) (i : ℕ) → Stays (formed_at masks before i)
same-formed_at masks before i b =
    same-if (begins_at b.items i && has_forms (syllable_of (item_at b.items i))) b (both_set masks before i (end_of b.items i) b) b
    (same-both_set masks before i (end_of b.items i) b) refl

same-formed_to : (masks : FormMasks) (n : ℕ) (b : Buffer) → Same b (formed_to masks n b).0
same-formed_to masks zero b = refl
same-formed_to masks (suc i) b = same-formed_at masks (formed_to masks i b).1 i (formed_to masks i b).0 ∙ same-formed_to masks i b

same-forms : (joins : Bool) (masks : FormMasks) → Stays (forms_set_unless joins masks)
same-forms true masks b = refl
same-forms false masks b = same-if (all_masks masks == 0) b b (all_forms_set masks b) refl (same-formed_to masks (length b.items) b)

same-set_up : (repha : ℕ) (joins : Bool) (forms : FormMasks) → Stays (set_up repha joins forms)
same-set_up repha joins forms b =
    same-forms joins forms (rephas_masked_if repha (found b)) ∙ same-rephas repha (found b) ∙ same-found b

-- ---- what lookups have made

stays-repha_recorded : (mask : ℕ) → StaysIn (repha_recorded mask)
stays-repha_recorded mask b start end =
    let i = start + count_before mask (slice_range b.items start end) in
    same-if (nat_lt i end && has_mask mask (item_at b.items i)) b (category_set R i b) b refl refl

same-rephas_recorded : (mask : ℕ) → Stays (rephas_recorded_if mask)
same-rephas_recorded mask b =
    same-if (mask == 0) b b (rephas_recorded mask b) refl (same-each (repha_recorded mask) (stays-repha_recorded mask) b)

stays-prebase_recorded : StaysIn prebase_recorded
stays-prebase_recorded b start end =
    let i = start + count_own (slice_range b.items start end) in
    same-if (nat_lt i end) b (category_set VPre i b) b refl refl

-- ---- the order

stays-repha_moved : StaysIn repha_moved
stays-repha_moved b start end =
    let to = start + count_base (slice_range b.items (start + 1) end) in
    same-if (category_of (item_at b.items start) == R) b (sent_after start to b) b (same-sent_after start to b) refl

same-moved_at : (end front i : ℕ) → Stays (moved_at end front i)
same-moved_at end front i b =
    let from = i + 1 - count_first (slice_range b.items front (i + 1)) in
    let moves = nat_lt front i && ends_run end i b.items in
    let moved = run_brought_before front from (i + 1) b in
    same-if (is_halant (item_at b.items i)) b b (if moves then moved else b) refl
    (same-if moves b moved b (same-run_brought front from (i + 1) b) refl)

same-moved_to : (start end count : ℕ) (b : Buffer) → Same b (moved_to start end count b).0
same-moved_to start end zero b = refl
same-moved_to start end (suc k) b =
    same-moved_at end (moved_to start end k b).1 (start + k) (moved_to start end k b).0 ∙ same-moved_to start end k b

stays-reordered : StaysIn reordered
stays-reordered b start end =
    let moved = repha_moved b start end in
    same-if (is_reordered (syllable_of (item_at b.items start))) b (first_moved moved start end) b
    (same-moved_to start end (end - start) moved ∙ stays-repha_moved b start end) refl

stays-reordered_some : StaysIn reordered_some
stays-reordered_some b start end = same-if (nat_lt start end) b (reordered b start end) b (stays-reordered b start end) refl

same-reordered : (face : FaceMeaning) → Stays (all_reordered face)
same-reordered face b = same-each reordered_some stays-reordered_some (with_circles face circled b) ∙ same-circles face circled b

-- ---- all of them

pub same-universal_pause : (n : ℕ) (map : MapMeaning) (script : Option Script) (face : FaceMeaning)
    → Stays (made_by_pause n map script face)
same-universal_pause n map script face =
    stays-if (n == 1) _ _ (same-set_up (map.one_mask RPHF) (joins script) (form_masks map))
    (stays-if (n == 2) _ _ (same-mapped without_substitution)
    (stays-if (n == 3) _ _ (same-rephas_recorded (map.one_mask RPHF))
    (stays-if (n == 4) _ _ (same-each prebase_recorded stays-prebase_recorded)
    (stays-if (n == 5) _ _ (same-reordered face) same-unchanged))))
