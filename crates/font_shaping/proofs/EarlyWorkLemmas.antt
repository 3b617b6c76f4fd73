-- what a run does before it has glyphs, besides its hooks, leaves what lookups may ask for as it is
use Rattle.std.proofs.Common.{◌≡◌, ℕ, List, [], ◌∷◌, Option, Some, None, ◌+◌, ◌-◌, ◌≤◌, ◌==◌, ◌&&◌, fold, refl, ap, ◌∙◌, arith, bit_and, nat_le, nat_lt, inl, inr}
use Rattle.std.specs.Prelude.{map}
use Rattle.std.proofs.lemmas.Bool.{cases_Bool}
use Rattle.shape_common.specs.Face.{FaceMeaning}
use Rattle.shape_common.specs.Unicode.{UnicodeMeaning}
use Rattle.shape_common.specs.declared.text_types.BufferClusterLevel.{BufferClusterLevel}
use Rattle.shape_common.specs.declared.text_types.BufferClusterLevel.TheVariants.{MonotoneGraphemes, MonotoneCharacters, Characters}
use Rattle.shape_common.specs.declared.text_types.Direction.{Direction}
use Rattle.shape_common.specs.declared.text_types.Feature.{Feature}
use Rattle.shape_items.proofs.MergingInOrder.EachSpanLemmas.{spans_merged_out_is, without_items-all_merged}
use Rattle.shape_items.specs.Buffer.{Buffer}
use Rattle.shape_items.specs.BufferClusters.{unsafe_to_break, merge_clusters}
use Rattle.shape_items.specs.GraphemeSpans.{grapheme_spans}
use Rattle.shape_items.specs.Items.{Item}
use Rattle.shape_buffer.specs.Layout.{MapMeaning}
use Rattle.shape_buffer.specs.Walks.{items_mapped}
use Rattle.shape_plan.specs.Rules.{Rules}
use Rattle.shape_plan.specs.declared.decisions.Decisions.{Decisions}
use Rattle.shape_prepare.specs.Begun.{begun}
use Rattle.shape_prepare.specs.ClustersFormed.{clusters_formed, over_graphemes}
use Rattle.canonical_form.specs.Expanded.{begins_with_mark}
use Rattle.shape_items.specs.Items.{ccc_of_item, is_mark_item}
use Rattle.shape_prepare.specs.DottedCircle.{dotted_circled, takes_circle, with_circle}
use Rattle.shape_prepare.specs.Fractions.{features_added, has_whole, whole_start, whole_end, slash_masked, next_place, slashes_masked, slash_places, fraction_masks, may_have_fractions, fractions_masked}
use Rattle.shape_prepare.specs.Graphemes.{graphemes_marked}
use Rattle.shape_prepare.specs.NativeOrder.{natively_ordered, native_direction, is_against, merged_to_reverse}
use Rattle.shape_plan.specs.Requests.{is_global}
use Rattle.shape_prepare.specs.Ranges.{range_masked, ranges_masked}
use Rattle.shape_prepare.specs.Rotated.{rotated}
use Rattle.shape_prepare.specs.declared.fractions.FractionMasks.{FractionMasks}
use Rattle.shape_normalize.proofs.Normalized.NormalizedLemmas.{preserved_by_rounds}
use Rattle.shape_normalize.specs.Normalized.{normalized}
use Rattle.shape_normalize.specs.RoundOne.{sequences, variation_sequences_from, round_one}
use Rattle.shape_normalize.specs.RoundThree.{absorbed_spans, recomposed_items, round_three}
use Rattle.shape_normalize.specs.RoundTwo.{max_run, spans, run_cccs, spans_merged, run_in_order, run_reordered, run_settled, runs, marks_ordered, has_seen_cgj, cgj_unhidden_where_seen}
use Rattle.opentype_layout.specs.Tries.{NeverRaises}
use Rattle.font_shaping.proofs.SameWorkLemmas.{Same, Stays, same-fold, same-break, same-merge, same-concat}

-- ---- preparing

pub same-begun : (mask : ℕ) → Stays (begun mask)
unfolding begun
same-begun mask b = refl

pub same-marked : (unicode : UnicodeMeaning) → Stays (graphemes_marked unicode)
unfolding graphemes_marked
same-marked unicode b = refl

same-circle : (unicode : UnicodeMeaning) (items : List Item) → Stays (with_circle unicode items)
same-circle unicode [] b = refl
same-circle unicode (first ∷ rest) b = refl

pub same-circled : (unicode : UnicodeMeaning) (face : FaceMeaning) → Stays (dotted_circled unicode face)
unfolding dotted_circled
same-circled unicode face b = elim (cases_Bool (takes_circle face b && begins_with_mark is_mark_item b.items)) [
  | inl on ↦ rw on (same-circle unicode b.items b)
  | inr off ↦ rw off refl
]

same-graphemes : (f : ℕ → ℕ → Buffer → Buffer) → ((start end : ℕ) → Stays (f start end)) → Stays (over_graphemes f)
same-graphemes f each b = same-fold (λ c span. f span.0 span.1 c) (λ c span. each span.0 span.1 c) (grapheme_spans b.items) b

pub same-formed : Stays clusters_formed
unfolding clusters_formed
same-formed b = elim (cases_Bool (bit_and b.scratch_flags.0 1 == 1)) [
  | inl seen ↦ rw seen (at_level b.cluster_level)
  | inr unseen ↦ rw unseen refl
]
  where
    at_level : (level : BufferClusterLevel) → Same b (elim level as (λ v. Buffer) [
      | MonotoneGraphemes ↦ over_graphemes merge_clusters b
      | MonotoneCharacters ↦ over_graphemes unsafe_to_break b
      | Characters ↦ over_graphemes unsafe_to_break b
    ])
    at_level MonotoneGraphemes = same-graphemes merge_clusters same-merge b
    at_level MonotoneCharacters = same-graphemes unsafe_to_break same-break b
    at_level Characters = same-graphemes unsafe_to_break same-break b

abbrev at_level_to_reverse : Buffer → BufferClusterLevel → Buffer
at_level_to_reverse b level = elim level [ MonotoneGraphemes ↦ b | MonotoneCharacters ↦ over_graphemes merge_clusters b | Characters ↦ b ]

same-merged : Stays merged_to_reverse
same-merged b = at_level b.cluster_level
  where
    at_level : (level : BufferClusterLevel) → Same b (at_level_to_reverse b level)
    at_level MonotoneGraphemes = refl
    at_level MonotoneCharacters = same-graphemes merge_clusters same-merge b
    at_level Characters = refl

pub same-native : (unicode : UnicodeMeaning) → Stays (natively_ordered unicode)
unfolding natively_ordered
same-native unicode b = elim (cases_Bool (is_against (native_direction unicode b) b.direction)) [
  | inl against ↦ rw against (same-merged b)
  | inr native ↦ rw native refl
]

pub same-rotated : (unicode : UnicodeMeaning) (face : FaceMeaning) (decisions : Decisions) (target : Direction)
    → Stays (rotated unicode face decisions target)
unfolding rotated items_mapped
same-rotated unicode face decisions target b = refl

-- ---- normalising

cgj-less : (b c : Buffer) → c.max_ops ≤ b.max_ops → (cgj_unhidden_where_seen c).max_ops ≤ b.max_ops
cgj-less b c less = elim (cases_Bool (has_seen_cgj c)) [
  | inl seen ↦ rw seen less
  | inr unseen ↦ rw unseen less
]

same-spans : (start end : ℕ) → Stays (spans_merged start end)
same-spans start end b =
    same-fold (λ c span. merge_clusters (start + span.0) (start + span.1) c) (λ c span. same-merge (start + span.0) (start + span.1) c)
    (spans (run_cccs start end b)) b

abbrev LessReorder : Option (Buffer → ℕ → ℕ → Buffer) → Type 0
LessReorder reorder = (f : Buffer → ℕ → ℕ → Buffer) → reorder ≡ Some f → (b : Buffer) (start end : ℕ) → (f b start end).max_ops ≤ b.max_ops

reordered-less : (reorder : Option (Buffer → ℕ → ℕ → Buffer)) → LessReorder reorder → (start end : ℕ) → NeverRaises (run_reordered reorder start end)
reordered-less None less start end b = omega arith
reordered-less (Some f) less start end b = elim (cases_Bool (nat_lt start end)) [
  | inl some ↦ rw some (less f refl b start end)
  | inr none ↦ rw none (omega arith)
]

settled-less : (reorder : Option (Buffer → ℕ → ℕ → Buffer)) → LessReorder reorder → (b : Buffer) (run : ℕ × ℕ)
    → (run_settled reorder b run).max_ops ≤ b.max_ops
unfolding run_settled
settled-less reorder less b run =
    let merged : Buffer = spans_merged run.0 run.1 b in
    let moved : (run_reordered reorder run.0 run.1 (run_in_order run.0 run.1 merged)).max_ops ≤ merged.max_ops =
    reordered-less reorder less run.0 run.1 (run_in_order run.0 run.1 merged) in
    let same : merged.max_ops ≡ b.max_ops = same-spans run.0 run.1 b in
    elim (cases_Bool (nat_le (run.1 - run.0) max_run)) [
      | inl short ↦ rw short (omega (arith, moved, same))
      | inr long ↦ rw long (omega arith)
    ]

all_settled-less : (reorder : Option (Buffer → ℕ → ℕ → Buffer)) → LessReorder reorder → (rest : List (ℕ × ℕ)) (b : Buffer)
    → (fold (run_settled reorder) b rest).max_ops ≤ b.max_ops
all_settled-less reorder less [] b = omega arith
all_settled-less reorder less (run ∷ rest) b =
    let first = settled-less reorder less b run in
    let later = all_settled-less reorder less rest (run_settled reorder b run) in
    omega (arith, first, later)

three-less : (rules : Rules) (b c : Buffer) → c.max_ops ≤ b.max_ops → (round_three rules c).max_ops ≤ b.max_ops
three-less rules b c so_far =
    let merged : (round_three rules c).max_ops ≡ c.max_ops =
    ap (λ (d : Buffer). d.max_ops) (spans_merged_out_is (absorbed_spans (recomposed_items rules c.items)) c) in
    omega (arith, merged, so_far)

pub normalized-less : (rules : Rules) → LessReorder rules.reorder → NeverRaises (normalized rules)
normalized-less rules less b =
    let one : Buffer = round_one rules b in
    let same : one.max_ops ≡ b.max_ops = ap (λ (c : Buffer). c.max_ops)
    (without_items-all_merged (variation_sequences_from rules.unicode rules.face 0 (sequences b.items)) b) in
    let moved : (marks_ordered rules.reorder one).max_ops ≤ one.max_ops =
    all_settled-less rules.reorder less (runs (map ccc_of_item one.items)) one in
    preserved_by_rounds rules (λ c. c.max_ops ≤ b.max_ops) b (λ so_far. omega (arith, moved, so_far)) (cgj-less b) (three-less rules b)
    (omega (arith, same))

-- ---- masks

same-slash : (masks : FractionMasks) (slash : ℕ) → Stays (slash_masked masks slash)
unfolding slash_masked features_added
same-slash masks slash b = elim (cases_Bool (has_whole b.items slash)) [
  | inl whole ↦ rw whole (same-break (whole_start b.items slash) (whole_end b.items slash) b)
  | inr alone ↦ rw alone (same-concat slash (slash + 1) b)
]

same-slashes : (masks : FractionMasks) (next : ℕ) (slashes : List ℕ) → Stays (slashes_masked masks next slashes)
same-slashes masks next [] b = refl
same-slashes masks next (slash ∷ slashes) b = elim (cases_Bool (nat_lt slash next)) [
  | inl before ↦ rw before (same-slashes masks next slashes b)
  | inr here ↦ rw here (same-slashes masks (next_place b.items slash) slashes (slash_masked masks slash b) ∙ same-slash masks slash b)
]

pub same-fractions : (decisions : Decisions) → Stays (fractions_masked decisions)
unfolding fractions_masked
same-fractions decisions b = elim (cases_Bool (may_have_fractions decisions b)) [
  | inl some ↦ rw some (same-slashes (fraction_masks decisions b.direction) 0 (slash_places 0 b.items) b)
  | inr none ↦ rw none refl
]

same-range : (meaning : MapMeaning) (b : Buffer) (feature : Feature) → Same b (range_masked meaning b feature)
unfolding items_mapped
same-range meaning b feature = elim (cases_Bool (is_global feature)) [
  | inl everywhere ↦ rw everywhere refl
  | inr somewhere ↦ rw somewhere refl
]

pub same-ranges : (meaning : MapMeaning) (features : List Feature) → Stays (ranges_masked meaning features)
unfolding ranges_masked
same-ranges meaning features b = same-fold (range_masked meaning) (same-range meaning) features b
