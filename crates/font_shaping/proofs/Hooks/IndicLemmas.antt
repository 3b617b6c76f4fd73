-- what the shaper of India's scripts does at its pauses and at the end leaves what lookups may ask for as it is
use Rattle.std.proofs.Common.{ℕ, zero, suc, ◌+◌, ◌-◌, ◌==◌, ◌&&◌, ◌||◌, max, min, nat_le, nat_lt, Bool, true, false, if◌then◌else◌, Option, List, length, set, slice_range, refl, ◌∙◌}
use Rattle.cluster_order.specs.Ordered.{joined_for, clusters_ordered}
use Rattle.shape_common.specs.Face.{FaceMeaning}
use Rattle.shape_common.specs.declared.text_types.BufferClusterLevel.{BufferClusterLevel}
use Rattle.shape_common.specs.declared.text_types.BufferClusterLevel.TheVariants.{MonotoneGraphemes, MonotoneCharacters, Characters}
use Rattle.shape_common.specs.declared.text_types.Script.{Script}
use Rattle.shape_items.specs.Buffer.{Buffer}
use Rattle.shape_items.specs.BufferClusters.{merge_clusters, unsafe_to_break}
use Rattle.shape_buffer.specs.Layout.{LayoutMeaning, LookupMeaning, MapMeaning}
use Rattle.shape_buffer.specs.Walks.{items_mapped}
use Rattle.syllables.specs.Grammar.{first_syllable}
use Rattle.syllables.specs.IndicGrammar.{indic_grammar}
use Rattle.syllabic.specs.Circles.{with_circles}
use Rattle.syllabic.specs.Moving.{brought_before, sent_after, stepped_after}
use Rattle.syllabic.specs.Scanning.{syllables_numbered}
use Rattle.syllabic.specs.Walking.{item_at, syllable_of, kind_of_byte, marked}
use Rattle.indic_shaper.specs.Categories.{categorized, with_sort}
use Rattle.indic_shaper.specs.Cutting.{circled, syllables_found}
use Rattle.indic_shaper.specs.Engine.{facts_of}
use Rattle.indic_shaper.specs.Glyphs.{position, with_mask}
use Rattle.indic_shaper.specs.Initial as initial
use Rattle.indic_shaper.specs.Initial.{Ordering, ordering, has_joiner_last, swapped_merged, joiner_swapped, put_back, joined, put_in_order, ordered_from, is_ordered_kind, syllable_ordered}
use Rattle.indic_shaper.specs.Pauses.{ordered_by, settled_by, made_by_pause}
use Rattle.indic_shaper.specs.Settling.Bases as bases
use Rattle.indic_shaper.specs.Settling.Matras as matras
use Rattle.indic_shaper.specs.Settling.Prefs as prefs
use Rattle.indic_shaper.specs.Settling.Rephs as rephs
use Rattle.indic_shaper.specs.Settling.Syllables.{begins_word, beginning_marked, moved, settled, settled_some}
use Rattle.indic_shaper.specs.Sorting.{span_at, merged_at, merged_to, moved_merged}
use Rattle.indic_shaper.specs.declared.config.TheConstants.{MALAYALAM}
use Rattle.indic_shaper.specs.declared.cutting.TheConstants.{OTHER}
use Rattle.indic_shaper.specs.declared.engine.Facts.{Facts}
use Rattle.indic_shaper.specs.declared.requests.TheConstants.{SYLLABLES, INITIAL, FINAL}
use Rattle.indic_shaper.specs.declared.settling.base.Spot.{Spot}
use Rattle.font_shaping.proofs.SameWorkLemmas.{Same, Stays, same-if, same-unchanged, stays-if, same-break, same-merge, same-mapped}
use Rattle.font_shaping.proofs.Hooks.SyllableLemmas.{StaysIn, same-each, stays-marked, same-numbered, same-circles, same-stepped_after, same-brought_before, same-sent_after}

same-found : Stays syllables_found
same-found b =
    let one = categorized b in
    let cut = first_syllable indic_grammar OTHER in
    same-each marked stays-marked (syllables_numbered cut 0 one) ∙ same-numbered cut 0 one ∙ same-mapped with_sort b

-- ---- the first pause

same-merged_at : (start base count : ℕ) (order : List ℕ) (i : ℕ) → Stays (merged_at start base count order i)
same-merged_at start base count order i b =
    let span = span_at order i in
    let from = start + max base span.least in
    let to = start + min (span.most + 1) count in
    same-if (nat_le base i) b (merge_clusters from to b) b (same-merge from to b) refl

same-merged_to : (start base count : ℕ) (order : List ℕ) (n : ℕ) → Stays (merged_to start base count order n)
same-merged_to start base count order zero b = refl
same-merged_to start base count order (suc i) b =
    same-merged_at start base count order i (merged_to start base count order i b) ∙ same-merged_to start base count order i b

same-joined : (facts : Facts) (start : ℕ) (o : Ordering) → Stays (joined facts start o)
same-joined facts start o b =
    let from = start + o.base in
    let to = start + length o.items in
    same-if (facts.is_old || nat_lt 127 (length o.items)) b (merge_clusters from to b)
    (moved_merged start o.base (length o.items) o.order b) (same-merge from to b)
    (same-if (length o.order == 0) b b (merged_to start o.base (length o.items) o.order (length o.items) b) refl
    (same-merged_to start o.base (length o.items) o.order (length o.items) b))

same-put_in_order : (facts : Facts) (start : ℕ) (o : Ordering) → Stays (put_in_order facts start o)
same-put_in_order facts start o b = same-joined facts start o (put_back start o.items b)

stays-swapped : (facts : Facts) → StaysIn (joiner_swapped facts)
stays-swapped facts b start end =
    same-if (has_joiner_last facts b.items start end) b (swapped_merged (start + 1) b) b (same-merge (start + 1) (start + 1 + 2) b) refl

stays-ordered : (lookups : LookupMeaning) (facts : Facts) → StaysIn (syllable_ordered lookups facts)
stays-ordered lookups facts b start end =
    let swapped = joiner_swapped facts b start end in
    same-if (is_ordered_kind (kind_of_byte (syllable_of (item_at b.items start)))) b (ordered_from lookups facts swapped start end) b
    (same-put_in_order facts start (ordering lookups facts (slice_range swapped.items start end)) swapped
    ∙ stays-swapped facts b start end) refl

same-ordered : (face : FaceMeaning) (lookups : LookupMeaning) (facts : Facts) → Stays (initial.ordered face lookups facts)
same-ordered face lookups facts b =
    same-each (syllable_ordered lookups facts) (stays-ordered lookups facts) (with_circles face circled b) ∙ same-circles face circled b

-- ---- the last pause: where the base stands

same-below_to : (base end n : ℕ) (b : Buffer) → Same b (bases.below_to base end n b).0
same-below_to base end zero b = refl
same-below_to base end (suc k) b =
    let c = (bases.below_to base end k b).0 in
    let below = (bases.below_to base end k b).1 in
    let i = bases.letter_from c.items below.from end in
    same-if (bases.below_at c.items i end) c (bases.placed i c) c refl refl ∙ same-below_to base end k b

same-below_skipped : (malayalam : Bool) (base end : ℕ) (b : Buffer) → Same b (bases.below_skipped_if malayalam base end b).0
same-below_skipped true base end b = same-below_to base end (end - (base + 1)) b
same-below_skipped false base end b = refl

same-placed : (unformed : Bool) (i end : ℕ) → Stays (bases.placed_if unformed i end)
same-placed unformed i end b = same-if (unformed && nat_lt i end) b (bases.placed i b) b refl refl

same-base : (facts : Facts) (start end : ℕ) (b : Buffer) → Same b (bases.found facts start end b).0
same-base facts start end b =
    let first = bases.first_base b.items start end in
    let unformed = bases.is_unformed facts.masks.pref b.items first end in
    let base = bases.base_at unformed facts.masks.pref b.items first end in
    same-below_skipped (facts.tag == MALAYALAM) base end (bases.placed_if unformed base end b) ∙ same-placed unformed base end b

-- ---- its moves

same-matra : (until i to : ℕ) (b : Buffer) → Same b (matras.moved_at until i b to)
same-matra until i to b =
    let stepped = stepped_after i (to - i) b in
    same-if (matras.is_before (item_at b.items i)) b (merge_clusters to until stepped) b
    (same-merge to until stepped ∙ same-stepped_after i (to - i) b) refl

same-matras_to : (until to n : ℕ) (b : Buffer) → Same b (matras.moved_to until to n b).0
same-matras_to until to zero b = refl
same-matras_to until to (suc k) b =
    same-matra until (to - k - 1) (matras.moved_to until to k b).1 (matras.moved_to until to k b).0 ∙ same-matras_to until to k b

same-merged : (start until base : ℕ) → Stays (matras.merged start until base)
same-merged start until base b =
    let i = matras.first_matra b.items start base in
    same-if (nat_lt i base) b (merge_clusters i until b) b (same-merge i until b) refl

same-put : (start base end to : ℕ) → Stays (matras.put start base end to)
same-put start base end to b =
    let until = matras.base_end base end in
    same-if (matras.may_move b.items start to) b (matras.moved start until to b) (matras.merged start until base b)
    (same-matras_to until to (to - start) b) (same-merged start until base b)

same-matras : (tag start end base : ℕ) → Stays (matras.settled tag start end base)
same-matras tag start end base b =
    let to = matras.place tag b.items start end base in
    same-if (matras.has_room start base end) b (matras.put start base end to b) b (same-put start base end to b) refl

same-rephs : (place start end base : ℕ) → Stays (rephs.settled place start end base)
same-rephs place start end base b =
    let to = rephs.place place b.items start end base in
    same-if (rephs.begins_with_reph b.items start end) b (sent_after start to b) b (same-sent_after start to b) refl

same-prefs : (tag mask start end base : ℕ) → Stays (prefs.settled tag mask start end base)
same-prefs tag mask start end base b =
    let to = prefs.place tag b.items start end base in
    let from = bases.asking_from mask b.items (base + 1) end in
    same-if (prefs.has_form mask b.items base end) b (brought_before to from b) b (same-brought_before to from b) refl

same-moved : (facts : Facts) (start end : ℕ) (b : Buffer) (spot : Spot) → Same b (moved facts start end b spot)
same-moved facts start end b spot =
    let one = matras.settled facts.tag start end spot.base b in
    let two = rephs.settled facts.config.reph_position start end spot.base one in
    let base = rephs.base_after facts.config.reph_position one.items start end spot.base in
    same-if spot.try_pref two (prefs.settled facts.tag facts.masks.pref start end base two) two
    (same-prefs facts.tag facts.masks.pref start end base two) refl
    ∙ same-rephs facts.config.reph_position start end spot.base one ∙ same-matras facts.tag start end spot.base b

same-beginning : (mask start : ℕ) → Stays (beginning_marked mask start)
same-beginning mask start b =
    let formed = record b { items = set b.items start (with_mask (item_at b.items start) mask) } in
    let broken = unsafe_to_break (start - 1) (start + 1) b in
    same-if (position (item_at b.items start) == 2) b (if begins_word b start then formed else broken) b
    (same-if (begins_word b start) b formed broken refl (same-break (start - 1) (start + 1) b)) refl

stays-settled : (facts : Facts) → StaysIn (settled facts)
unfolding settled
stays-settled facts b start end =
    let found = bases.found facts start end b in
    same-beginning facts.masks.init start (moved facts start end found.0 found.1) ∙ same-moved facts start end found.0 found.1
    ∙ same-base facts start end b

stays-settled_some : (facts : Facts) → StaysIn (settled_some facts)
stays-settled_some facts b start end =
    same-if (nat_lt start end) b (settled facts b start end) b (stays-settled facts b start end) refl

same-mended : (virama : ℕ) → Stays (bases.viramas_mended virama)
same-mended virama b = same-if (virama == 0) b b (items_mapped (bases.mended virama) b) refl (same-mapped (bases.mended virama) b)

-- ---- all of it

module _ {Map : Type 0} (face : FaceMeaning) (layout : LayoutMeaning Map) (map : MapMeaning) (lookups : LookupMeaning) (script : Option Script) where
  same-ordered_by : Stays (ordered_by face layout map lookups script)
  unfolding ordered_by
  same-ordered_by b = same-ordered face lookups (facts_of face layout map script b.language) b

  same-settled_by : Stays (settled_by face layout map script)
  unfolding settled_by
  same-settled_by b =
      let facts = facts_of face layout map script b.language in
      same-each (settled_some facts) (stays-settled_some facts) (bases.viramas_mended facts.virama b) ∙ same-mended facts.virama b

  pub same-indic_pause : (n : ℕ) → Stays (made_by_pause n face layout map lookups script)
  same-indic_pause n =
      stays-if (n == SYLLABLES) _ _ same-found
      (stays-if (n == INITIAL) _ _ same-ordered_by (stays-if (n == FINAL) _ _ same-settled_by same-unchanged))

pub same-clusters_ordered : (backward : Bool) → Stays (clusters_ordered backward)
unfolding clusters_ordered
same-clusters_ordered backward b = at_level b.cluster_level
  where
    at_level : (level : BufferClusterLevel) → Same b (elim level as (λ v. Buffer) [
      | MonotoneGraphemes ↦ record b { items = joined_for backward b.items }
      | MonotoneCharacters ↦ record b { items = joined_for backward b.items }
      | Characters ↦ b
    ])
    at_level MonotoneGraphemes = refl
    at_level MonotoneCharacters = refl
    at_level Characters = refl
