-- Preparing preserves the flags of glyphs and the order of clusters, which the native order may reverse. The steps that go
-- item by item are stated in StepPreservation; here are those that merge graphemes, mark them unsafe to break, and reverse them.
use Rattle.std.proofs.Common.{◌≡◌, ℕ, ◌||◌, Bool, true, false, inl, inr, List, [], ◌∷◌, ◌++◌, map, reverse, refl, sym, ap, ◌∙◌, subst, ◌+◌, ◌-◌, ◌<◌, ◌≤◌, length, arith}
use Rattle.std.proofs.Math.Bool.{or_comm}
use Rattle.std.proofs.lemmas.Bool.{cases_Bool}
use Rattle.std.proofs.lemmas.List.{reverse-append, append-nil, get_or-reverse, length-reverse}
use Rattle.std.proofs.lemmas.List.Folds.{list_any-append}
use Rattle.std.proofs.lemmas.Grind.{flat_map-append}
use Rattle.std.specs.List.{list_any}
use Rattle.std.specs.Prelude.{Contains}
use Rattle.std.specs.List.Sorted.{IsNonDecreasing}
use Rattle.canonical_form.proofs.Lists.DividedLemmas.{whole, whole-divided}
use Rattle.shape_common.specs.Face.{FaceMeaning}
use Rattle.shape_common.specs.Unicode.{UnicodeMeaning}
use Rattle.shape_common.specs.declared.text_types.BufferClusterLevel.{BufferClusterLevel}
use Rattle.shape_common.specs.declared.text_types.BufferClusterLevel.TheVariants.{MonotoneGraphemes, MonotoneCharacters, Characters}
use Rattle.shape_items.specs.Buffer.{Buffer}
use Rattle.shape_items.specs.BufferClusters.{merge_clusters, unsafe_to_break}
use Rattle.shape_items.specs.Items.{Item}
use Rattle.shape_items.specs.Clusters.{clusters, merge}
use Rattle.shape_items.specs.ClusterOrder.{PreservesClusters, IsMonotoneLevel, IsOrderedFor}
use Rattle.shape_items.specs.PreservesFlags.{PreservesFlags, has_flag, some_has}
use Rattle.shape_items.specs.GraphemeSpans.{graphemes, is_continuation, grapheme_spans, spans_from}
use Rattle.shape_items.proofs.Flags.FlagLemmas.{PreservesFlags-same, PreservesFlags-then, merge_clusters_preserves, unsafe_to_break_preserves}
use Rattle.shape_items.proofs.Merging.KeyLemmas.{length-merge}
use Rattle.shape_items.proofs.Order.GraphemeOrderLemmas.{AreOneCluster, clusters-reversed, falls-reversed}
use Rattle.shape_items.proofs.Merging.MergeOrder.{merge_preserves}
use Rattle.shape_buffer.specs.Preservation.{PreservesOrder, IsFlagPreserving, EachStep, IsClusterPreserving}
use Rattle.shape_buffer.proofs.Steps.PreservationLemmas.{PreservesOrder-same, PreservesClusters-equal, PreservesClusters-then, PreservesOrder-then, order-unsafe_to_break}
use Rattle.shape_plan.specs.Run.{hook_if}
use Rattle.shape_plan.proofs.PreservationLemmas.{preserving-hook}
use Rattle.shape_prepare.specs.Begun.{begun}
use Rattle.shape_prepare.specs.ClustersFormed.{clusters_formed, over_graphemes}
use Rattle.shape_prepare.specs.DottedCircle.{dotted_circled}
use Rattle.shape_prepare.specs.Graphemes.{graphemes_marked}
use Rattle.shape_prepare.specs.Preservation.{PreparingPreservesFlags}
use Rattle.shape_prepare.specs.NativeOrder.{natively_ordered, native_direction, is_against, graphemes_reversed, merged_to_reverse, from_last}
use Rattle.shape_prepare.specs.PrepareSteps.{order_steps}
use Rattle.shape_prepare.specs.Rotated.{rotated}
use Rattle.shape_prepare.specs.ClusterPoint.{direction_for, InOrderFor, PreparingPreservesOrder}
use Rattle.shape_prepare.proofs.StepLemmas.{over_graphemes-preserved, clusters_formed-cases, merged_to_reverse-cases, clusters_formed-unseen, clusters_formed-merged, at_level_to_reverse, merged_to_reverse-merged}
use Rattle.shape_prepare.proofs.Spans.GraphemeClusterLemmas.{spans-merged, merged-one_cluster, total-graphemes, NoneContinues, single-one_cluster}
use Rattle.shape_prepare.proofs.Spans.RisingMergeLemmas.{all_merged}
use Rattle.shape_prepare.proofs.Preservation.StepPreservation.{begun-preserves, begun-preserves_flags, graphemes_marked-preserves, dotted_circled-preserves, rotated-preserves, circled-unseen, marked-unseen, seen_past}
use Rattle.shape_prepare.proofs.Spans.ReversalLemmas.{total}

-- ---- clusters of graphemes

sizes-preserve : (start : ℕ) (sizes : List ℕ) (xs : List Item) → start + total sizes ≤ length xs
    → PreservesClusters (clusters xs) (clusters (all_merged (spans_from start sizes) xs))
sizes-preserve start [] xs within = PreservesClusters-equal (clusters xs) (clusters xs) refl
sizes-preserve start (size ∷ sizes) xs within =
    let next = merge start (start + size) xs in
    let many : length next ≡ length xs = length-merge start (start + size) xs in
    PreservesClusters-then (clusters xs) (clusters next) _ (merge_preserves start (start + size) xs next (omega arith) refl)
    (sizes-preserve (start + size) sizes next (omega arith))

pub merged-preserves_order : (b : Buffer) → IsMonotoneLevel b.cluster_level → PreservesOrder b (over_graphemes merge_clusters b)
merged-preserves_order b monotone = rw (spans-merged (grapheme_spans b.items) b monotone) (record {
  clusters = sizes-preserve 0 (map length (graphemes b.items)) b.items (omega (arith, total-graphemes b.items));
  direction = refl;
  flags = refl;
  level = refl;
})

pub clusters_formed-preserves_order : IsClusterPreserving clusters_formed
clusters_formed-preserves_order b monotone =
    let marks = λ (start end : ℕ) (c : Buffer) (so_far : PreservesOrder b c).
    PreservesOrder-then b c _ so_far (order-unsafe_to_break start end c) in
    clusters_formed-cases (PreservesOrder b) b (merged-preserves_order b monotone)
    (over_graphemes-preserved (PreservesOrder b) unsafe_to_break marks b (PreservesOrder-same b)) (PreservesOrder-same b)

over-preserves_flags : (f : ℕ → ℕ → Buffer → Buffer) → ((start end : ℕ) → IsFlagPreserving (f start end)) → IsFlagPreserving (over_graphemes f)
over-preserves_flags f preserves b =
    over_graphemes-preserved (PreservesFlags b) f (λ start end c so_far. PreservesFlags-then b c _ so_far (preserves start end c)) b (PreservesFlags-same b)

pub clusters_formed-preserves_flags : IsFlagPreserving clusters_formed
clusters_formed-preserves_flags b =
    clusters_formed-cases (PreservesFlags b) b (over-preserves_flags merge_clusters merge_clusters_preserves b)
    (over-preserves_flags unsafe_to_break unsafe_to_break_preserves b) (PreservesFlags-same b)

-- ---- the native order

contains-reverse : (xs : List ℕ) (x : ℕ) → Contains (reverse xs) x → Contains xs x
contains-reverse xs x (k, lt, e) =
    let short : k < length xs = rw (← length-reverse xs) lt in
    (length xs - 1 - k, omega arith, sym (get_or-reverse xs k x short) ∙ e)

-- graphemes of one cluster each, reversed
reversed-in_order : (b : Buffer) → AreOneCluster (graphemes b.items) → IsNonDecreasing (clusters b.items) → InOrderFor true b (graphemes_reversed b)
reversed-in_order b one rising =
    let parts = graphemes b.items in
    let together : whole parts ≡ b.items = whole-divided is_continuation b.items in
    let reversed : clusters (from_last parts) ≡ reverse (clusters b.items) = clusters-reversed parts one
    ∙ ap (λ (l : List Item). reverse (clusters l)) together in
    record {
      order = falls-reversed parts one (subst (λ (l : List Item). IsNonDecreasing (clusters l)) (sym together) rising);
      none_new = λ k c. contains-reverse (clusters b.items) k (subst (λ (l : List ℕ). Contains l k) reversed c);
      direction = refl;
      flags = refl;
      level = refl;
    }

-- a buffer whose graphemes stand in one cluster each once they are to be reversed
pub record IsReadyToReverse (b : Buffer) : Type 0 where
  pub rising : IsNonDecreasing (clusters b.items)
  pub monotone : IsMonotoneLevel b.cluster_level
  pub one : b.cluster_level ≡ MonotoneGraphemes → AreOneCluster (graphemes b.items)

to_reverse-one : (b : Buffer) (level : BufferClusterLevel) → b.cluster_level ≡ level → IsReadyToReverse b
    → AreOneCluster (graphemes (merged_to_reverse b).items)
to_reverse-one b MonotoneGraphemes is ready =
    subst (λ (c : Buffer). AreOneCluster (graphemes c.items)) (sym (ap (at_level_to_reverse b) is)) (ready.one is)
to_reverse-one b MonotoneCharacters is ready =
    subst (λ (c : Buffer). AreOneCluster (graphemes c.items))
    (sym (merged_to_reverse-merged b is ∙ spans-merged (grapheme_spans b.items) b ready.monotone))
    (merged-one_cluster b.items ready.rising)
to_reverse-one b Characters is ready = absurd (subst IsMonotoneLevel is ready.monotone)

in_order-after : (reversed : Bool) (a b c : Buffer) → PreservesOrder a b → InOrderFor reversed b c → InOrderFor reversed a c
in_order-after reversed a b c first last = record {
  order = last.order;
  none_new = λ k x. first.clusters.none_new k (last.none_new k x);
  direction = last.direction ∙ ap (direction_for reversed) first.direction;
  flags = last.flags ∙ first.flags;
  level = last.level ∙ first.level;
}

ordered-preserved : (reversed : Bool) (xs ys : List ℕ) → PreservesClusters xs ys → IsOrderedFor reversed xs → IsOrderedFor reversed ys
ordered-preserved true xs ys preserves falls = preserves.falling falls
ordered-preserved false xs ys preserves rises = preserves.rising rises

pub in_order-preserved : (reversed : Bool) (a b c : Buffer) → InOrderFor reversed a b → PreservesOrder b c → InOrderFor reversed a c
in_order-preserved reversed a b c first last = record {
  order = ordered-preserved reversed (clusters b.items) (clusters c.items) last.clusters first.order;
  none_new = λ k x. first.none_new k (last.clusters.none_new k x);
  direction = last.direction ∙ first.direction;
  flags = last.flags ∙ first.flags;
  level = last.level ∙ first.level;
}

pub natively-in_order : (unicode : UnicodeMeaning) (b : Buffer) → IsReadyToReverse b
    → InOrderFor (is_against (native_direction unicode b) b.direction) b (natively_ordered unicode b)
unfolding natively_ordered
natively-in_order unicode b ready = elim (cases_Bool (is_against (native_direction unicode b) b.direction)) [
  | inl on ↦ rw on (
      let merged = merged_to_reverse b in
      let preserves = merged_to_reverse-cases (PreservesOrder b) b (PreservesOrder-same b) (merged-preserves_order b ready.monotone) in
      in_order-after true b merged (graphemes_reversed merged) preserves
      (reversed-in_order merged (to_reverse-one b b.cluster_level refl ready) (preserves.clusters.rising ready.rising))
      )
  | inr off ↦ rw off (record { order = ready.rising; none_new = λ k c. c; direction = refl; flags = refl; level = refl })
]

pub from_last-first : {A : Type 0} (part : List A) (parts : List (List A)) → from_last (part ∷ parts) ≡ from_last parts ++ part
from_last-first {A} part parts =
    ap (λ (l : List (List A)). whole l) (reverse-append (part ∷ []) parts)
    ∙ flat_map-append (λ (p : List A). p) (reverse parts) (part ∷ [])
    ∙ ap (λ (l : List A). from_last parts ++ l) (append-nil part)

any-from_last : (p : Item → Bool) (parts : List (List Item)) → list_any p (from_last parts) ≡ list_any p (whole parts)
any-from_last p [] = refl
any-from_last p (part ∷ parts) =
    ap (list_any p) (from_last-first part parts) ∙ list_any-append p (from_last parts) part
    ∙ ap (λ t. t || list_any p part) (any-from_last p parts) ∙ or_comm (list_any p (whole parts)) (list_any p part)
    ∙ sym (list_any-append p part (whole parts))

reversed-preserves_flags : IsFlagPreserving graphemes_reversed
reversed-preserves_flags b = record {
  flags = refl;
  stays_set = λ e. e;
  none_new = λ flag d some. inl (ap (some_has flag) (sym (whole-divided is_continuation b.items))
      ∙ sym (any-from_last (has_flag flag) (graphemes b.items)) ∙ some);
}

pub natively_ordered-preserves_flags : (unicode : UnicodeMeaning) → IsFlagPreserving (natively_ordered unicode)
unfolding natively_ordered
natively_ordered-preserves_flags unicode b = elim (cases_Bool (is_against (native_direction unicode b) b.direction)) [
  | inl on ↦ rw on (
      let merged = merged_to_reverse b in
      let preserves = merged_to_reverse-cases (PreservesFlags b) b (PreservesFlags-same b) (over-preserves_flags merge_clusters merge_clusters_preserves b) in
      PreservesFlags-then b merged (graphemes_reversed merged) preserves (reversed-preserves_flags merged)
      )
  | inr off ↦ rw off (PreservesFlags-same b)
]

-- ---- the graphemes as the clusters were formed

pub formed-ready : (unicode : UnicodeMeaning) (face : FaceMeaning) (b : Buffer) → IsMonotoneLevel b.cluster_level
    → IsNonDecreasing (clusters b.items)
    → IsReadyToReverse (clusters_formed (dotted_circled unicode face (graphemes_marked unicode b)))
formed-ready unicode face b monotone rising =
    let marked = graphemes_marked unicode b in
    let circled = dotted_circled unicode face marked in
    let first = PreservesOrder-then b marked circled (graphemes_marked-preserves unicode b).order (dotted_circled-preserves unicode face marked).order in
    let level : IsMonotoneLevel circled.cluster_level = subst IsMonotoneLevel (sym first.level) monotone in
    let preserves = clusters_formed-preserves_order circled level in
    let rises = first.clusters.rising rising in
    record {
      rising = preserves.clusters.rising rises;
      monotone = subst IsMonotoneLevel (sym preserves.level) level;
      one = λ at_graphemes. elim (cases_Bool (seen_past circled.scratch_flags)) [
        | inl seen ↦
            let whole_is = clusters_formed-merged circled seen (sym preserves.level ∙ at_graphemes)
            ∙ spans-merged (grapheme_spans circled.items) circled level in
            subst (λ (c : Buffer). AreOneCluster (graphemes c.items)) (sym whole_is) (merged-one_cluster circled.items rises)
        | inr unseen ↦
            let same = circled-unseen unicode face marked unseen in
            let bare : NoneContinues marked.items = marked-unseen unicode b
            (ap (λ (c : Buffer). seen_past c.scratch_flags) (sym same) ∙ unseen) in
            subst (λ (c : Buffer). AreOneCluster (graphemes c.items)) (sym (clusters_formed-unseen circled unseen ∙ same))
            (single-one_cluster marked.items bare)
      ];
    }

-- ---- all of them

pub preparing_preserves_order : PreparingPreservesOrder
preparing_preserves_order run target b preserves monotone rising =
    let start = begun run.map.global_mask b in
    let first = (begun-preserves run.map.global_mask b).order in
    let marked = graphemes_marked run.unicode start in
    let circled = dotted_circled run.unicode run.face marked in
    let formed = clusters_formed circled in
    let ordered = natively_ordered run.unicode formed in
    let level : IsMonotoneLevel start.cluster_level = subst IsMonotoneLevel (sym first.level) monotone in
    let to_circle = PreservesOrder-then start marked circled (graphemes_marked-preserves run.unicode start).order
    (dotted_circled-preserves run.unicode run.face marked).order in
    let formed_level : IsMonotoneLevel circled.cluster_level = subst IsMonotoneLevel (sym to_circle.level) level in
    let to_formed = PreservesOrder-then b start formed first
    (PreservesOrder-then start circled formed to_circle (clusters_formed-preserves_order circled formed_level)) in
    let ready = formed-ready run.unicode run.face start level (first.clusters.rising rising) in
    let against = is_against (native_direction run.unicode formed) formed.direction in
    let reverses = in_order-after against b formed ordered to_formed (natively-in_order run.unicode formed ready) in
    let hook = preserving-hook IsClusterPreserving (λ c _. PreservesOrder-same c) run.constants.has_preprocess_text run.hooks (λ h. h.preprocess)
    (λ h is. (preserves.hooks h is).preprocess) in
    let processed = hook_if run.constants.has_preprocess_text run.hooks (λ h. h.preprocess) ordered in
    let ordered_level : IsMonotoneLevel ordered.cluster_level = subst IsMonotoneLevel (sym reverses.level) monotone in
    let to_processed = in_order-preserved against b ordered processed reverses (hook ordered ordered_level) in
    in_order-preserved against b processed (rotated run.unicode run.face run.decisions target processed) to_processed
    (rotated-preserves run.unicode run.face run.decisions target processed).order

pub preparing_preserves_flags : PreparingPreservesFlags
preparing_preserves_flags run target writes preserves =
    let hook = preserving-hook IsFlagPreserving PreservesFlags-same run.constants.has_preprocess_text run.hooks (λ h. h.preprocess)
    (λ h is. (preserves.hooks h is).preprocess) in
    let order : EachStep IsFlagPreserving (order_steps run target) = (
      natively_ordered-preserves_flags run.unicode,
      (hook, (λ b. (rotated-preserves run.unicode run.face run.decisions target b).flags writes.mirroring, tt)),
    ) in (
      begun-preserves_flags run.map.global_mask writes.global,
      (
        λ b. (graphemes_marked-preserves run.unicode b).flags refl,
        (λ b. (dotted_circled-preserves run.unicode run.face b).flags refl, (clusters_formed-preserves_flags, order)),
      ),
    )
