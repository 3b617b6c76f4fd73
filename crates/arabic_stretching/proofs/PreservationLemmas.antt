-- Noting tiles and stretching them preserve clusters and flags.
use Rattle.std.proofs.Common.{◌≡◌, ℕ, zero, suc, ◌+◌, Bool, true, false, None, List, drop, length, reverse, nat_lt, refl, ap, sym, ◌∙◌, subst, inl, inr, if◌then◌else◌}
use Rattle.std.proofs.lemmas.List.{reverse-reverse}
use Rattle.std.specs.List.{list_any}
use Rattle.shape_common.specs.Face.{FaceMeaning}
use Rattle.shape_items.specs.Buffer.{Buffer, limit_of}
use Rattle.shape_items.specs.BufferClusters.{unsafe_to_break}
use Rattle.shape_items.specs.ClusterOrder.{PreservesClusters}
use Rattle.shape_items.specs.Clusters.{clusters}
use Rattle.shape_items.specs.Items.{Item}
use Rattle.shape_items.specs.PreservesFlags.{PreservesFlags, some_has}
use Rattle.shape_items.proofs.Flags.FlagLemmas.{PreservesFlags-same, PreservesFlags-then, unsafe_to_break_preserves}
use Rattle.shape_items.proofs.Order.DrawsInOrder.{DrawsInOrder-then, PreservesClusters-from_draws}
use Rattle.shape_buffer.specs.Preservation.{PreservesOrder, IsClusterPreserving, IsFlagPreserving}
use Rattle.shape_buffer.proofs.Steps.PreservationLemmas.{PreservesOrder-same, PreservesOrder-then, order-items_mapped, flags-items_mapped, order-unsafe_to_break}
use Rattle.arabic_stretching.specs.Copying.{stretched_from}
use Rattle.arabic_stretching.specs.Stretching.{glyphs_from, is_leftward, turned, laid_out, laid_within, stretched_in, stretched}
use Rattle.arabic_stretching.specs.Tiles.{tile_of, recorded, tiles_recorded, is_tile, span_len, begins_at, span_marked_at, spans_marked_to, spans_marked}
use Rattle.arabic_stretching.proofs.DrawnLemmas.{keys, stretched-draws, stretched-some, glyphs-draws, glyphs-some}
use Rattle.shape_items.proofs.Order.ReversedLemmas.{clusters-reverse, some_has-reverse}
use Rattle.arabic_stretching.proofs.TurnedLemmas.{clusters-turned}

-- ---- tiles noted

abbrev Same : Item → Item → Type 0
Same x y = (y.cluster ≡ x.cluster) × (y.mask ≡ x.mask)

recorded-same : (x : Item) → Same x (recorded x)
recorded-same x = elim x.properties.multiplied as (λ t. Same x (if t then record x { properties = record x.properties { shaper_auxiliary = tile_of x.properties.ligature_component } } else x)) [
  | true ↦ (refl, refl)
  | false ↦ (refl, refl)
]

pub recorded-order : IsClusterPreserving tiles_recorded
recorded-order = order-items_mapped recorded (λ x. (recorded-same x).0)

pub recorded-flags : IsFlagPreserving tiles_recorded
recorded-flags = flags-items_mapped recorded (λ x. (recorded-same x).1)

-- ---- spans marked

at-order : (i : ℕ) (b : Buffer) → PreservesOrder b (span_marked_at i b)
at-order i b = elim (begins_at b.items i) as (λ t. PreservesOrder b (if t then unsafe_to_break i (i + span_len (drop i b.items)) b else b)) [
  | true ↦ order-unsafe_to_break i (i + span_len (drop i b.items)) b
  | false ↦ PreservesOrder-same b
]

at-flags : (i : ℕ) (b : Buffer) → PreservesFlags b (span_marked_at i b)
at-flags i b = elim (begins_at b.items i) as (λ t. PreservesFlags b (if t then unsafe_to_break i (i + span_len (drop i b.items)) b else b)) [
  | true ↦ unsafe_to_break_preserves i (i + span_len (drop i b.items)) b
  | false ↦ PreservesFlags-same b
]

to-order : (n : ℕ) (b : Buffer) → PreservesOrder b (spans_marked_to n b)
to-order zero b = PreservesOrder-same b
to-order (suc n) b = PreservesOrder-then b (spans_marked_to n b) (spans_marked_to (suc n) b) (to-order n b) (at-order n (spans_marked_to n b))

to-flags : (n : ℕ) (b : Buffer) → PreservesFlags b (spans_marked_to n b)
to-flags zero b = PreservesFlags-same b
to-flags (suc n) b = PreservesFlags-then b (spans_marked_to n b) (spans_marked_to (suc n) b) (to-flags n b) (at-flags n (spans_marked_to n b))

-- ---- tiles put over their words

module _ (face : FaceMeaning) (right_to_left : Bool) where
  laid-clusters : (b : Buffer) → PreservesClusters (clusters b.items) (clusters (laid_out face right_to_left b).items)
  laid-clusters b =
      let gs = glyphs_from b.items b.positions in
      PreservesClusters-from_draws (clusters b.items) (keys (stretched_from face right_to_left None gs))
      (DrawsInOrder-then (clusters b.items) (keys gs) (keys (stretched_from face right_to_left None gs)) (glyphs-draws b.items b.positions)
      (stretched-draws face right_to_left None gs))

  laid-some : (flag : ℕ) (b : Buffer) → some_has flag (laid_out face right_to_left b).items ≡ true → some_has flag b.items ≡ true
  laid-some flag b some =
      let gs = glyphs_from b.items b.positions in
      glyphs-some flag b.items b.positions (stretched-some flag face right_to_left None gs some)

  marked-order : (b : Buffer) → PreservesOrder b (spans_marked (laid_out face right_to_left b))
  marked-order b =
      let c = laid_out face right_to_left b in
      PreservesOrder-then b c (spans_marked c) (record { clusters = laid-clusters b; direction = refl; flags = refl; level = refl })
      (to-order (length c.items) c)

  marked-flags : (b : Buffer) → PreservesFlags b (spans_marked (laid_out face right_to_left b))
  marked-flags b =
      let c = laid_out face right_to_left b in
      PreservesFlags-then b c (spans_marked c)
      (record { flags = refl; stays_set = λ e. e; none_new = λ flag is some. inl (laid-some flag b some) })
      (to-flags (length c.items) c)

  inner-order : (b : Buffer) → PreservesOrder b (laid_within face right_to_left b)
  inner-order b =
      let laid = laid_out face right_to_left b in
      elim (nat_lt (limit_of b) (length laid.items)) as (λ t. PreservesOrder b (if t then b else spans_marked laid)) [
        | true ↦ PreservesOrder-same b
        | false ↦ marked-order b
      ]

  inner-flags : (b : Buffer) → PreservesFlags b (laid_within face right_to_left b)
  inner-flags b =
      let laid = laid_out face right_to_left b in
      elim (nat_lt (limit_of b) (length laid.items)) as (λ t. PreservesFlags b (if t then b else spans_marked laid)) [
        | true ↦ PreservesFlags-same b
        | false ↦ marked-flags b
      ]

-- ---- turned round before and after

turned-order : (f : Buffer → Buffer) → ((b : Buffer) → PreservesOrder b (f b)) → (right_to_left : Bool) (b : Buffer)
    → PreservesOrder b (turned right_to_left (f (turned right_to_left b)))
turned-order f preserves false b = preserves b
turned-order f preserves true b =
    let c : Buffer = turned true b in
    let d : Buffer = f c in
    let p = preserves c in
    let there : PreservesClusters (reverse (clusters c.items)) (reverse (clusters d.items)) = clusters-turned (clusters c.items) (clusters d.items) p.clusters in
    let before : reverse (clusters c.items) ≡ clusters b.items = ap (λ (cs : List ℕ). reverse cs) (clusters-reverse b.items) ∙ reverse-reverse (clusters b.items) in
    record {
      clusters = subst (λ (cs : List ℕ). PreservesClusters (clusters b.items) cs) (sym (clusters-reverse d.items))
          (subst (λ (cs : List ℕ). PreservesClusters cs (reverse (clusters d.items))) before there);
      direction = p.direction;
      flags = p.flags;
      level = p.level;
    }

turned-flags : (f : Buffer → Buffer) → ((b : Buffer) → PreservesFlags b (f b)) → (right_to_left : Bool) (b : Buffer)
    → PreservesFlags b (turned right_to_left (f (turned right_to_left b)))
turned-flags f preserves false b = preserves b
turned-flags f preserves true b =
    let c : Buffer = turned true b in
    let d : Buffer = f c in
    let p = preserves c in
    record {
      flags = p.flags;
      stays_set = p.stays_set;
      none_new = λ flag is some. elim (p.none_new flag is (sym (some_has-reverse flag d.items) ∙ some)) [
        | inl had ↦ inl (sym (some_has-reverse flag b.items) ∙ had)
        | inr noted ↦ inr noted
      ];
    }

pub stretched-order : (face : FaceMeaning) → IsClusterPreserving (stretched face)
stretched-order face b monotone =
    let right_to_left = is_leftward b.direction in
    elim (list_any is_tile b.items) as (λ t. PreservesOrder b (if t then stretched_in face right_to_left b else b)) [
      | true ↦ turned-order (laid_within face right_to_left) (inner-order face right_to_left) right_to_left b
      | false ↦ PreservesOrder-same b
    ]

pub stretched-flags : (face : FaceMeaning) → IsFlagPreserving (stretched face)
stretched-flags face b =
    let right_to_left = is_leftward b.direction in
    elim (list_any is_tile b.items) as (λ t. PreservesFlags b (if t then stretched_in face right_to_left b else b)) [
      | true ↦ turned-flags (laid_within face right_to_left) (inner-flags face right_to_left) right_to_left b
      | false ↦ PreservesFlags-same b
    ]
