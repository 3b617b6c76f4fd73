-- The clusters of first characters of graphemes.
use Rattle.std.proofs.Common.{◌≡◌, ℕ, zero, suc, ◌+◌, ◌<◌, List, [], ◌∷◌, ◌++◌, length, get_or, take, map, refl, sym, ap, ap₂, ◌∙◌, arith, inl, inr, subst, append_assoc}
use Rattle.std.proofs.lemmas.Bool.{cases_Bool}
use Rattle.std.proofs.lemmas.List.{length-map, length-append, map-append, get_or_at}
use Rattle.std.specs.Prelude.{Contains}
use Rattle.std.specs.List.{flat_map}
use Rattle.std.specs.List.Sorted.{IsNonDecreasing}
use Rattle.canonical_form.specs.Divided.{put_first}
use Rattle.canonical_form.proofs.Lists.DividedLemmas.{whole, whole-divided, divided-joins, divided-parts, divided-begins}
use Rattle.shape_items.specs.Buffer.{Buffer}
use Rattle.shape_items.specs.Clusters.{clusters}
use Rattle.shape_items.specs.ClusterOrder.{IsMonotoneLevel}
use Rattle.shape_common.specs.Face.{FaceMeaning}
use Rattle.shape_items.specs.Items.{Item}
use Rattle.shape_common.specs.Unicode.{UnicodeMeaning}
use Rattle.shape_items.proofs.Merging.JoinLemmas.{cluster_at}
use Rattle.shape_prepare.specs.ClusterPoint.{first_clusters, PreparingPreservesFirsts}
use Rattle.shape_prepare.specs.Begun.{begun}
use Rattle.shape_items.specs.GraphemeSpans.{grapheme_spans, graphemes, is_continuation}
use Rattle.shape_prepare.specs.ClustersFormed.{clusters_formed}
use Rattle.shape_prepare.specs.NativeOrder.{natively_ordered}
use Rattle.shape_plan.specs.Run.{hook_if}
use Rattle.shape_buffer.specs.Preservation.{IsClusterPreserving}
use Rattle.shape_common.specs.declared.text_types.BufferClusterLevel.TheVariants.{MonotoneGraphemes}
use Rattle.shape_buffer.proofs.Steps.PreservationLemmas.{PreservesOrder-same, PreservesOrder-then}
use Rattle.shape_prepare.proofs.Preservation.PreservationLemmas.{natively-in_order, formed-ready}
use Rattle.shape_prepare.proofs.Preservation.StepPreservation.{begun-preserves, graphemes_marked-preserves, dotted_circled-preserves, rotated-preserves, circled-unseen, marked-unseen, seen_past}
use Rattle.shape_prepare.proofs.StepLemmas.{dotted_circled-cases, clusters_formed-unseen, clusters_formed-merged}
use Rattle.shape_prepare.specs.DottedCircle.{dotted_circled, circle_before}
use Rattle.shape_prepare.specs.Graphemes.{graphemes_marked}
use Rattle.shape_prepare.proofs.Spans.RisingMergeLemmas.{Firsts, all-firsts, SomeEach}
use Rattle.shape_prepare.proofs.Spans.GraphemeClusterLemmas.{some-graphemes, total-graphemes, merged-parts, graphemes_merged, spans-merged, NoneContinues}
use Rattle.shape_plan.proofs.PreservationLemmas.{preserving-hook}

abbrev firsts_of : List (List Item) → List ℕ
firsts_of parts = flat_map (λ part. take 1 (clusters part)) parts

contains-after : (x : ℕ) (xs : List ℕ) (k : ℕ) → Contains xs k → Contains (x ∷ xs) k
contains-after x xs k (i, lt, e) = (suc i, omega arith, e)

-- the first items of parts have the first clusters
parts-firsts : (Q : ℕ → Type 0) (pre : List Item) (parts : List (List Item)) → SomeEach (map length parts)
    → ((k : ℕ) → Contains (firsts_of parts) k → Q k) → Firsts Q (length pre) (map length parts) (pre ++ whole parts)
parts-firsts Q pre [] some holds = tt
parts-firsts Q pre ([] ∷ parts) some holds = absurd (omega (arith, some.0))
parts-firsts Q pre ((x ∷ part) ∷ parts) some holds =
    let behind = (x ∷ part) ++ whole parts in
    let here : cluster_at (pre ++ behind) (length pre) ≡ x.cluster =
    ap (λ (cs : List ℕ). get_or cs (length pre) 0) (map-append (λ (item : Item). item.cluster) pre behind)
    ∙ get_or_at (clusters pre) x.cluster (clusters (part ++ whole parts)) 0 (length pre) (length-map pre (λ item. item.cluster)) in
    let size : length (pre ++ (x ∷ part)) ≡ length pre + length (x ∷ part) = length-append pre (x ∷ part) in
    let rest = parts-firsts Q (pre ++ (x ∷ part)) parts some.1 (λ k c. holds k (contains-after x.cluster (firsts_of parts) k c)) in (
      subst Q (sym here) (holds x.cluster (0, omega arith, refl)),
      subst (λ (l : List Item). Firsts Q (length pre + length (x ∷ part)) (map length parts) l) (append_assoc pre (x ∷ part) (whole parts))
          (subst (λ n. Firsts Q n (map length parts) ((pre ++ (x ∷ part)) ++ whole parts)) size rest),
    )

pub own-firsts : (Q : ℕ → Type 0) (xs : List Item) → ((k : ℕ) → Contains (first_clusters xs) k → Q k)
    → Firsts Q 0 (map length (graphemes xs)) xs
own-firsts Q xs holds =
    subst (λ (l : List Item). Firsts Q 0 (map length (graphemes xs)) l) (whole-divided is_continuation xs)
    (parts-firsts Q [] (graphemes xs) (some-graphemes xs) holds)

-- merged graphemes have no other clusters than the first ones
pub merged-firsts : (Q : ℕ → Type 0) (xs : List Item) → IsNonDecreasing (clusters xs) → ((k : ℕ) → Contains (first_clusters xs) k → Q k)
    → (k : ℕ) → Contains (clusters (graphemes_merged xs)) k → Q k
merged-firsts Q xs rising holds k (i, lt, e) =
    let merged = merged-parts xs rising in
    let many : length (clusters (graphemes_merged xs))
    ≡ length (graphemes_merged xs) = length-map (graphemes_merged xs) (λ item. item.cluster) in
    let inside : i < length xs = omega (arith, lt, many, merged.as_many) in
    let all = all-firsts Q 0 (map length (graphemes xs)) (graphemes_merged xs) merged.one (merged.firsts Q (own-firsts Q xs holds)) i
    (omega arith) (omega (arith, total-graphemes xs)) in
    subst Q (sym (at_default (clusters (graphemes_merged xs)) i k lt) ∙ e) all
  where
    at_default : (cs : List ℕ) (i d : ℕ) → i < length cs → get_or cs i d ≡ get_or cs i 0
    at_default [] i d lt = absurd (omega arith)
    at_default (c ∷ cs) zero d lt = refl
    at_default (c ∷ cs) (suc i) d lt = at_default cs i d (omega arith)

-- ---- a circle before the first item

contains-once : (x : ℕ) (xs : List ℕ) (k : ℕ) → Contains (x ∷ x ∷ xs) k → Contains (x ∷ xs) k
contains-once x xs k (zero, lt, e) = (zero, omega arith, e)
contains-once x xs k (suc i, lt, e) = (i, omega arith, e)

ahead-firsts : (circle first : Item) (rest : List Item) → circle.cluster ≡ first.cluster → (k : ℕ)
    → Contains (first_clusters (circle ∷ first ∷ rest)) k → Contains (first_clusters (first ∷ rest)) k
ahead-firsts circle first rest same k =
    let h = divided-begins is_continuation first rest in
    let own : first_clusters (first ∷ rest) ≡ first.cluster ∷ firsts_of h.1 = ap firsts_of h.2 in
    elim (cases_Bool (is_continuation first)) [
      | inl on ↦ λ c.
          let all : first_clusters (circle ∷ first ∷ rest) ≡ circle.cluster ∷ firsts_of h.1 =
          ap firsts_of (divided-joins is_continuation circle first rest on ∙ ap (put_first circle) h.2) in
          subst (λ (l : List ℕ). Contains l k) (all ∙ ap (λ n. n ∷ firsts_of h.1) same ∙ sym own) c
      | inr off ↦ λ c.
          let all : first_clusters (circle ∷ first ∷ rest) ≡ circle.cluster ∷ first_clusters (first ∷ rest) =
          ap firsts_of (divided-parts is_continuation circle first rest off) in
          let twice = all ∙ ap₂ (λ (n : ℕ) (l : List ℕ). n ∷ l) same own in
          subst (λ (l : List ℕ). Contains l k) (sym own)
          (contains-once first.cluster (firsts_of h.1) k (subst (λ (l : List ℕ). Contains l k) twice c))
    ]

circled-firsts : (unicode : UnicodeMeaning) (face : FaceMeaning) (b : Buffer) (k : ℕ)
    → Contains (first_clusters (dotted_circled unicode face b).items) k → Contains (first_clusters b.items) k
circled-firsts unicode face b k =
    dotted_circled-cases (λ c. Contains (first_clusters c.items) k → Contains (first_clusters b.items) k) unicode face b (λ c. c)
    (λ first rest is c. subst (λ (l : List Item). Contains (first_clusters l) k) (sym is)
    (ahead-firsts (circle_before unicode first) first rest refl k
    (subst (λ (l : List Item). Contains (first_clusters (circle_before unicode first ∷ l)) k) is c)))

-- ---- the whole

single-firsts : (xs : List Item) → NoneContinues xs → clusters xs ≡ first_clusters xs
single-firsts [] none = refl
single-firsts (x ∷ []) none = refl
single-firsts (x ∷ y ∷ rest) none =
    ap (λ (cs : List ℕ). x.cluster ∷ cs) (single-firsts (y ∷ rest) none.1)
    ∙ sym (ap firsts_of (divided-parts is_continuation x y rest none.1.0))

formed-firsts : (unicode : UnicodeMeaning) (face : FaceMeaning) (b : Buffer) → b.cluster_level ≡ MonotoneGraphemes
    → IsNonDecreasing (clusters b.items)
    → (k : ℕ) → Contains (clusters (clusters_formed (dotted_circled unicode face (graphemes_marked unicode b))).items) k
    → Contains (first_clusters (graphemes_marked unicode b).items) k
formed-firsts unicode face b graphemes_level rising k contains =
    let marked = graphemes_marked unicode b in
    let circled = dotted_circled unicode face marked in
    let first = PreservesOrder-then b marked circled (graphemes_marked-preserves unicode b).order (dotted_circled-preserves unicode face marked).order in
    let level : circled.cluster_level ≡ MonotoneGraphemes = first.level ∙ graphemes_level in
    elim (cases_Bool (seen_past circled.scratch_flags)) [
      | inl seen ↦
          let whole_is = clusters_formed-merged circled seen level
          ∙ spans-merged (grapheme_spans circled.items) circled (subst IsMonotoneLevel (sym level) tt) in
          merged-firsts (λ k. Contains (first_clusters marked.items) k) circled.items (first.clusters.rising rising)
          (circled-firsts unicode face marked) k
          (subst (λ (c : Buffer). Contains (clusters c.items) k) whole_is contains)
      | inr unseen ↦
          let same = circled-unseen unicode face marked unseen in
          let bare : NoneContinues marked.items = marked-unseen unicode b
          (ap (λ (c : Buffer). seen_past c.scratch_flags) (sym same) ∙ unseen) in
          let own = subst (λ (c : Buffer). Contains (clusters c.items) k) (clusters_formed-unseen circled unseen ∙ same) contains in
          subst (λ (l : List ℕ). Contains l k) (single-firsts marked.items bare) own
    ]

pub preparing_preserves_firsts : PreparingPreservesFirsts
preparing_preserves_firsts run target b preserves graphemes_level rising k contains =
    let start = begun run.map.global_mask b in
    let first = (begun-preserves run.map.global_mask b).order in
    let formed = clusters_formed (dotted_circled run.unicode run.face (graphemes_marked run.unicode start)) in
    let ordered = natively_ordered run.unicode formed in
    let level : start.cluster_level ≡ MonotoneGraphemes = first.level ∙ graphemes_level in
    let ready = formed-ready run.unicode run.face start (subst IsMonotoneLevel (sym level) tt) (first.clusters.rising rising) in
    let reverses = natively-in_order run.unicode formed ready in
    let hook = preserving-hook IsClusterPreserving (λ c _. PreservesOrder-same c) run.constants.has_preprocess_text run.hooks (λ h. h.preprocess)
    (λ h is. (preserves.hooks h is).preprocess) in
    let processed = hook_if run.constants.has_preprocess_text run.hooks (λ h. h.preprocess) ordered in
    let ordered_level : IsMonotoneLevel ordered.cluster_level = subst IsMonotoneLevel (sym reverses.level) ready.monotone in
    let by_hook = hook ordered ordered_level in
    let by_forms = (rotated-preserves run.unicode run.face run.decisions target processed).order in
    formed-firsts run.unicode run.face start level (first.clusters.rising rising) k
    (reverses.none_new k (by_hook.clusters.none_new k (by_forms.clusters.none_new k contains)))
