-- Normalising preserves feature bits: each item of the normalised list has those of an item of the text.
use Rattle.std.proofs.Common.{◌≡◌, ℕ, zero, suc, List, [], ◌∷◌, map, get_or, Option, None, Some, refl, sym, subst, ◌∙◌}
use Rattle.std.specs.List.{AllByRecursion, Contains}
use Rattle.std.specs.Option.{option_map_or}
use Rattle.std.proofs.lemmas.List.Elements.{All-from_recursion, recursion_from_All, All-contains_itself}
use Rattle.std.proofs.lemmas.Nat.{and_assoc, and_or_apart}
use Rattle.shape_items.specs.Buffer.{Buffer}
use Rattle.shape_items.specs.BufferClusters.{merge_out_clusters}
use Rattle.shape_items.specs.Items.{Item}
use Rattle.shape_common.specs.declared.text_types.GlyphId.{GlyphId}
use Rattle.shape_items.proofs.Merging.KeyLemmas.{IsKey, keys-merge_out}
use Rattle.shape_normalize.specs.Normalized.{normalized, features_of, PreservesFeatures}
use Rattle.shape_normalize.specs.Recast.{recast_to}
use Rattle.shape_normalize.specs.RoundOne.{whole_item, expansion_of, variation_sequences_merged, round_one}
use Rattle.shape_items.specs.Spans.{spans_merged_out}
use Rattle.shape_normalize.specs.RoundThree.{Placed, recomposed_items, absorbed_spans, with_cluster_at, round_three}
use Rattle.shape_normalize.specs.RoundTwo.{marks_ordered, cgj_unhidden_where_seen}
use Rattle.shape_plan.specs.Rules.{Rules}
use Rattle.shape_normalize.proofs.RoundTwo.CgjLemmas.{keys-cgj_unhidden_where_seen}
use Rattle.shape_normalize.proofs.Normalized.NormalizedLemmas.{preserved_by_rounds}
use Rattle.shape_normalize.proofs.RoundThree.RecomposedItemLemmas.{each_recomposed}
use Rattle.shape_normalize.proofs.Hooks.ReorderLemmas.{LawfulReorder}
use Rattle.shape_normalize.proofs.RoundOne.RoundOneLemmas.{keys-variation_sequences_merged, whole_item_is, expanded_all}
use Rattle.shape_normalize.proofs.RoundOne.SequenceLemmas.{each_of_values, each_value}
use Rattle.shape_normalize.proofs.RoundTwo.SettleLemmas.{keys-marks_ordered}

-- ---- merging

-- merging changes the defined flags alone
pub IsKey-features : IsKey features_of
IsKey-features =
    record { by_cluster = λ item cluster. and_assoc 4294967288 item.mask 4294967288; by_break = λ item. and_or_apart 4294967288 item.mask 3 refl }

pub features-spans_merged_out : (spans : List (ℕ × ℕ)) (b : Buffer) → map features_of (spans_merged_out spans b).items ≡ map features_of b.items
features-spans_merged_out [] b = refl
features-spans_merged_out (span ∷ spans) b =
    features-spans_merged_out spans (merge_out_clusters span.0 span.1 b) ∙ keys-merge_out features_of IsKey-features span.0 span.1 b

-- ---- what holds of feature bits

module _ (rules : Rules) (P : ℕ → Type 0) where
  -- the feature bits of each item are among these
  abbrev Has : List Item → Type 0
  Has items = AllByRecursion (λ item. P (features_of item)) items

  -- lists of the same feature bits
  has_same : (old new : List Item) → map features_of new ≡ map features_of old → Has old → Has new
  has_same old new same each = each_of_values features_of P new (subst (AllByRecursion P) (sym same) (each_value features_of P old each))

  -- ---- round one

  parts_have : (item : Item) → P (features_of item) → (cs : List ℕ) → Has (map (recast_to rules.unicode rules.face.nominal_glyph item) cs)
  parts_have item h [] = tt
  parts_have item h (c ∷ cs) = (h, parts_have item h cs)

  found_have : (invisible : Option GlyphId) (item : Item) → P (features_of item) → (found : Option (List ℕ))
      → Has (option_map_or (map (recast_to rules.unicode rules.face.nominal_glyph item)) found (whole_item rules invisible item ∷ []))
  found_have invisible item h None =
      (whole_item_is rules invisible (λ whole. P (features_of whole)) item (λ glyph. h) (λ glyph space. h), tt)
  found_have invisible item h (Some cs) = parts_have item h cs

  round_one_has : (b : Buffer) → Has b.items → Has (round_one rules b).items
  round_one_has b each =
      let merged = (variation_sequences_merged rules b).items in
      expanded_all rules b.invisible_glyph b.not_found_variation_selector_glyph (λ item. P (features_of item))
      (λ item. P (features_of item))
      (λ item glyph h. h) (λ item glyph h. h) (λ short item h. found_have b.invisible_glyph item h (expansion_of rules short item))
      merged (has_same b.items merged (keys-variation_sequences_merged rules features_of IsKey-features b) each)

  -- ---- round three

  -- what stands at a place, or in its stead
  has_at : (items : List Item) (place : ℕ) (other : Item) → Has items → P (features_of other) → P (features_of (get_or items place other))
  has_at [] place other each h = h
  has_at (item ∷ items) zero other each h = each.0
  has_at (item ∷ items) (suc place) other each h = has_at items place other each.1 h

  put_out_have : (items : List Item) → Has items → (out : List Placed) → AllByRecursion (λ (p : Placed). P (features_of p.item)) out
      → Has (map (with_cluster_at items) out)
  put_out_have items has [] each = tt
  put_out_have items has (p ∷ out) each = (has_at items p.place p.item has each.0, put_out_have items has out each.1)

  round_three_has : (b : Buffer) → Has b.items → Has (round_three rules b).items
  round_three_has b each =
      let out = recomposed_items rules b.items in
      let merged = (spans_merged_out (absorbed_spans out) b).items in
      put_out_have merged (has_same b.items merged (features-spans_merged_out (absorbed_spans out) b) each) out
      (each_recomposed rules (λ item. P (features_of item)) (λ item c has h. h) b.items each)

  -- ---- the rounds

  normalized_has : LawfulReorder rules.reorder → (b : Buffer) → Has b.items → Has (normalized rules b).items
  normalized_has lawful b each =
      let one : Buffer = round_one rules b in
      preserved_by_rounds rules (λ c. Has c.items) b
      (λ of. each_of_values features_of P (marks_ordered rules.reorder one).items
      (keys-marks_ordered rules.reorder lawful features_of IsKey-features (λ f is item ccc. refl) P one
      (each_value features_of P one.items of)))
      (λ c of. has_same c.items (cgj_unhidden_where_seen c).items (keys-cgj_unhidden_where_seen features_of (λ item. refl) c) of)
      round_three_has (round_one_has b each)

-- each item of the normalised list has the feature bits of an item of the text
pub normalized_preserves_features : (rules : Rules) → LawfulReorder rules.reorder → (b new : Buffer) → new ≡ normalized rules b
    → PreservesFeatures b new
normalized_preserves_features rules lawful b new is =
    let those : List ℕ = map features_of b.items in
    let all : List Item = (normalized rules b).items in
    rw is (All-from_recursion (λ item. Contains those (features_of item)) all
    (normalized_has rules (Contains those) lawful b
    (each_of_values features_of (Contains those) b.items (recursion_from_All (Contains those) those (All-contains_itself those)))))
