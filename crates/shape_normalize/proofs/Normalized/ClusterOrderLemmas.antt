-- Normalising preserves the order of clusters at the monotone levels, and brings no new one.
use Rattle.std.proofs.Common.{◌≡◌, ℕ, Bool, true, false, if◌then◌else◌, List, [], ◌∷◌, ◌++◌, map, Option, None, Some, refl, sym, ap, subst}
use Rattle.std.proofs.lemmas.List.Concat.{flat_map_single}
use Rattle.std.specs.List.{flat_map}
use Rattle.std.specs.Option.{option_map_or}
use Rattle.shape_items.specs.Buffer.{Buffer}
use Rattle.shape_items.specs.Clusters.{clusters}
use Rattle.shape_items.specs.ClusterOrder.{PreservesClusters, IsMonotoneLevel}
use Rattle.shape_buffer.specs.Preservation.{IsClusterPreserving}
use Rattle.shape_items.specs.Items.{Item, is_mark_item}
use Rattle.shape_common.specs.declared.text_types.GlyphId.{GlyphId}
use Rattle.canonical_form.proofs.Lists.DividedLemmas.{values-divided}
use Rattle.shape_items.proofs.Order.DrawsInOrder.{DrawsInOrder, DrawsInOrder-after, DrawsInOrder-again, PreservesClusters-from_draws}
use Rattle.shape_buffer.proofs.Steps.PreservationLemmas.{PreservesClusters-then}
use Rattle.shape_items.proofs.MergingInOrder.EachSpanLemmas.{all_merged_preserve}
use Rattle.shape_plan.specs.Rules.{Rules}
use Rattle.shape_normalize.proofs.RoundOne.SelectorLemmas.{variation_sequences_in_order}
use Rattle.shape_normalize.specs.Recast.{recast_to}
use Rattle.shape_normalize.specs.RoundOne.{whole_item, expansion_of, emitted_for, skipped_item, marked_selector, variant_items, variants}
use Rattle.shape_normalize.specs.RoundOne.{is_selector_item, is_selector_sequence, is_with_marks, variation_sequences_from}
use Rattle.shape_normalize.specs.RoundOne.{variation_sequences_merged, sequences, sequence_items, expanded, round_one}
use Rattle.shape_normalize.specs.RoundTwo.{cgj_unhidden_where_seen}
use Rattle.shape_normalize.specs.Normalized.{normalized, HookPreservesClusters}
use Rattle.shape_normalize.proofs.RoundOne.DrawnLemmas.{DrawsBefore, DrawsBefore-same, draws_whole, draws_pieces}
use Rattle.shape_normalize.proofs.RoundTwo.CgjLemmas.{keys-cgj_unhidden_where_seen}
use Rattle.shape_normalize.proofs.Normalized.NormalizedLemmas.{preserved_by_rounds}
use Rattle.shape_normalize.proofs.RoundTwo.OrderedClusterLemmas.{marks_ordered_preserves}
use Rattle.shape_normalize.proofs.RoundThree.RecomposedClusterLemmas.{round_three_preserves}
use Rattle.shape_normalize.proofs.Hooks.ReorderLemmas.{LawfulReorder}
use Rattle.shape_normalize.proofs.RoundOne.RoundOneLemmas.{whole_item_is}
use Rattle.shape_normalize.proofs.Normalized.SettingLemmas.{level-round_one, settings-normalized}

-- ---- round one: what the items become

module _ (rules : Rules) where
  -- the parts of an item stand in its cluster
  draws_parts : (item : Item) (cs : List ℕ) (from drawn : List ℕ) → DrawsInOrder (item.cluster ∷ from) drawn
      → DrawsInOrder (item.cluster ∷ from) (clusters (map (recast_to rules.unicode rules.face.nominal_glyph item) cs) ++ drawn)
  draws_parts item [] from drawn h = h
  draws_parts item (c ∷ cs) from drawn h =
      DrawsInOrder-again item.cluster from (clusters (map (recast_to rules.unicode rules.face.nominal_glyph item) cs) ++ drawn)
      (draws_parts item cs from drawn h)

  cluster-whole_item : (invisible : Option GlyphId) (item : Item) → (whole_item rules invisible item).cluster ≡ item.cluster
  cluster-whole_item invisible item =
      whole_item_is rules invisible (λ whole. whole.cluster ≡ item.cluster) item (λ glyph. refl) (λ glyph space. refl)

  draws_found : (invisible : Option GlyphId) (item : Item) (found : Option (List ℕ))
      → DrawsBefore (item.cluster
      ∷ []) (clusters (option_map_or (map (recast_to rules.unicode rules.face.nominal_glyph item)) found
      (whole_item rules invisible item ∷ [])))
  draws_found invisible item None = rw (cluster-whole_item invisible item) (DrawsBefore-same (item.cluster ∷ []))
  draws_found invisible item (Some cs) = λ from drawn h. draws_parts item cs from drawn (DrawsInOrder-after item.cluster from drawn h)

  draws_emitted : (invisible : Option GlyphId) (short : Bool) (items : List Item)
      → DrawsBefore (clusters items) (clusters (flat_map (emitted_for rules invisible short) items))
  draws_emitted invisible short items =
      rw (← flat_map_single (λ (item : Item). item.cluster) items)
      (draws_pieces (emitted_for rules invisible short) (λ (item : Item). item.cluster ∷ [])
      (λ item. draws_found invisible item (expansion_of rules short item)) items)

  clusters-skipped : (items : List Item) → clusters (map (skipped_item rules.face.nominal_glyph) items) ≡ clusters items
  clusters-skipped [] = refl
  clusters-skipped (item ∷ items) = ap (λ l. item.cluster ∷ l) (clusters-skipped items)

  -- of an item and its selectors the first selector may go
  draws_variant : (not_found : Option GlyphId) (part : List Item)
      → DrawsBefore (clusters part) (clusters (variant_items rules.face not_found part))
  draws_variant not_found [] = DrawsBefore-same []
  draws_variant not_found (x ∷ []) = DrawsBefore-same (x.cluster ∷ [])
  draws_variant not_found (x ∷ v ∷ rest) =
      elim (rules.face.variation_glyph x.codepoint v.codepoint) as (λ o. DrawsBefore (clusters (x ∷ v ∷ rest)) (clusters
      (elim o [
        | Some g ↦ record x { glyph_index = g.0 }
            ∷ map (skipped_item rules.face.nominal_glyph) rest
        | None ↦ skipped_item rules.face.nominal_glyph x
            ∷ marked_selector not_found (skipped_item rules.face.nominal_glyph v) ∷ map (skipped_item rules.face.nominal_glyph) rest
      ]))) [
        | Some g ↦ rw (clusters-skipped rest) (λ from drawn h. DrawsInOrder-again x.cluster _ _
            (DrawsInOrder-after x.cluster _ _ (DrawsInOrder-after v.cluster _ _ (DrawsBefore-same (clusters rest) from drawn h))))
        | None ↦ rw (clusters-skipped rest) (DrawsBefore-same (clusters (x ∷ v ∷ rest)))
      ]

  draws_variants : (not_found : Option GlyphId) (sequence : List Item)
      → DrawsBefore (clusters sequence) (clusters (flat_map (variant_items rules.face not_found) (variants rules.unicode sequence)))
  draws_variants not_found sequence =
      rw (← values-divided (is_selector_item rules.unicode) (λ (item : Item). item.cluster) sequence)
      (draws_pieces (variant_items rules.face not_found) clusters (draws_variant not_found) (variants rules.unicode sequence))

  draws_sequence : (invisible not_found : Option GlyphId) (sequence : List Item)
      → DrawsBefore (clusters sequence) (clusters (sequence_items rules invisible not_found sequence))
  draws_sequence invisible not_found sequence =
      elim (is_selector_sequence rules.unicode sequence) as (λ t. DrawsBefore (clusters sequence)
      (clusters (if t then flat_map (variant_items rules.face not_found) (variants rules.unicode sequence)
      else flat_map (emitted_for rules invisible (rules.short (is_with_marks sequence))) sequence))) [
        | true ↦ draws_variants not_found sequence
        | false ↦ draws_emitted invisible (rules.short (is_with_marks sequence)) sequence
      ]

  expanded_draws : (invisible not_found : Option GlyphId) (items : List Item)
      → DrawsInOrder (clusters items) (clusters (expanded rules invisible not_found items))
  expanded_draws invisible not_found items =
      draws_whole (clusters items) (clusters (expanded rules invisible not_found items))
      (rw (← values-divided is_mark_item (λ (item : Item). item.cluster) items)
      (draws_pieces (sequence_items rules invisible not_found) clusters (draws_sequence invisible not_found) (sequences items)))

-- ---- round one: the variation sequences that are merged

module _ (rules : Rules) where
  variation_sequences_merged_preserves : (b : Buffer) → PreservesClusters (clusters b.items) (clusters (variation_sequences_merged rules b).items)
  variation_sequences_merged_preserves b =
      (all_merged_preserve 0 (variation_sequences_from rules.unicode rules.face 0 (sequences b.items)) b _
      (variation_sequences_in_order rules.unicode rules.face b.items) refl).0

  -- expanding preserves the order of clusters
  pub round_one_preserves : (b : Buffer) → PreservesClusters (clusters b.items) (clusters (round_one rules b).items)
  round_one_preserves b =
      PreservesClusters-then _ _ _ (variation_sequences_merged_preserves b) (PreservesClusters-from_draws _ _
      (expanded_draws rules b.invisible_glyph b.not_found_variation_selector_glyph (variation_sequences_merged rules b).items))

-- ---- the rounds together

-- unhiding CGJ changes no cluster
pub cgj_unhidden_where_seen_clusters : (b : Buffer) → clusters (cgj_unhidden_where_seen b).items ≡ clusters b.items
cgj_unhidden_where_seen_clusters b = keys-cgj_unhidden_where_seen (λ item. item.cluster) (λ item. refl) b

module _ (rules : Rules) (lawful : LawfulReorder rules.reorder) where
  -- normalising preserves the order of clusters at the monotone levels, and brings no new one, if the reorder hook does
  pub normalized_preserves : (b new : Buffer) → new ≡ normalized rules b → IsMonotoneLevel b.cluster_level → HookPreservesClusters rules
      → PreservesClusters (clusters b.items) (clusters new.items)
  normalized_preserves b new is monotone hook =
      let one : Buffer = round_one rules b in
      rw is (preserved_by_rounds rules (λ c. PreservesClusters (clusters b.items) (clusters c.items)) b
      (λ so_far. PreservesClusters-then _ _ _ so_far (marks_ordered_preserves rules.reorder lawful hook one
      (subst IsMonotoneLevel (sym (level-round_one rules b)) monotone)))
      (λ c so_far. rw (cgj_unhidden_where_seen_clusters c) so_far)
      (λ c so_far. PreservesClusters-then _ _ _ so_far (round_three_preserves rules c))
      (round_one_preserves rules b))

  -- so normalising preserves clusters as a step of a run
  pub PreservesOrder-normalized : HookPreservesClusters rules → IsClusterPreserving (normalized rules)
  PreservesOrder-normalized hook b monotone =
      let same = settings-normalized rules lawful b in
      record {
        clusters = normalized_preserves b (normalized rules b) refl monotone hook;
        direction = ap (λ (c : Buffer). c.direction) same;
        flags = ap (λ (c : Buffer). c.flags) same;
        level = ap (λ (c : Buffer). c.cluster_level) same;
      }
