-- Normalising preserves the cluster level and the limit.
use Rattle.std.proofs.Common.{◌≡◌, ◌==◌, Bool, true, false, [], if◌then◌else◌, bit_and, refl, ap, ◌∙◌}
use Rattle.shape_items.specs.Buffer.{Buffer, limit_of}
use Rattle.shape_plan.specs.Rules.{Rules}
use Rattle.shape_normalize.specs.RoundOne.{sequences, variation_sequences_from, round_one}
use Rattle.shape_normalize.specs.RoundThree.{absorbed_spans, recomposed_items}
use Rattle.shape_normalize.specs.RoundTwo.{marks_ordered, cgj_unhidden_where_seen, cgj_unhidden, has_mark_past_first}
use Rattle.shape_normalize.specs.Normalized.{normalized, ordered}
use Rattle.shape_normalize.proofs.Normalized.NormalizedLemmas.{preserved_by_rounds}
use Rattle.shape_normalize.proofs.Hooks.ReorderLemmas.{LawfulReorder}
use Rattle.shape_items.proofs.MergingInOrder.EachSpanLemmas.{spans_merged_out_is, without_items-all_merged}
use Rattle.shape_normalize.proofs.RoundTwo.SettleLemmas.{without_items-marks_ordered}

-- ---- round one

module _ (rules : Rules) (b : Buffer) where
  pub level-round_one : (round_one rules b).cluster_level ≡ b.cluster_level
  level-round_one =
      ap (λ (c : Buffer). c.cluster_level) (without_items-all_merged (variation_sequences_from rules.unicode rules.face 0 (sequences b.items)) b)

  limit-round_one : (round_one rules b).length_limit ≡ b.length_limit
  limit-round_one =
      ap (λ (c : Buffer). c.length_limit) (without_items-all_merged (variation_sequences_from rules.unicode rules.face 0 (sequences b.items)) b)

-- ---- the ordered list

limit-cgj_unhidden_where_seen : (b : Buffer) → (cgj_unhidden_where_seen b).length_limit ≡ b.length_limit
limit-cgj_unhidden_where_seen b =
    elim (bit_and b.scratch_flags.0 8 == 8) as (λ t. (if t then record b { items = cgj_unhidden b.items } else b).length_limit
    ≡ b.length_limit) [ true ↦ refl | false ↦ refl ]

module _ (rules : Rules) (lawful : LawfulReorder rules.reorder) where
  limit-ordered : (b : Buffer) → (ordered rules b).length_limit ≡ b.length_limit
  limit-ordered b = limit-cgj_unhidden_where_seen _ ∙ by_test (has_mark_past_first b.items) ∙ limit-round_one rules b
    where
      by_test : (test : Bool)
          → (if test then marks_ordered rules.reorder (round_one rules b) else round_one rules b).length_limit
          ≡ (round_one rules b).length_limit
      by_test true = ap (λ (c : Buffer). c.length_limit) (without_items-marks_ordered rules.reorder lawful (round_one rules b))
      by_test false = refl

  pub limit_of-ordered : (b : Buffer) → limit_of (ordered rules b) ≡ limit_of b
  limit_of-ordered b = rw (limit-ordered b) refl

-- ---- what no round writes

-- all of a buffer except its items, their positions and the scratch flags
abbrev pub settings_of : Buffer → Buffer
settings_of b = record b { items = []; positions = []; scratch_flags = record { 0 = 0 } }

settings-cgj : (b : Buffer) → settings_of (cgj_unhidden_where_seen b) ≡ settings_of b
settings-cgj b = elim (bit_and b.scratch_flags.0 8 == 8)
    as (λ t. settings_of (if t then record b { items = cgj_unhidden b.items } else b) ≡ settings_of b) [ true ↦ refl | false ↦ refl ]

pub settings-normalized : (rules : Rules) → LawfulReorder rules.reorder → (b : Buffer) → settings_of (normalized rules b) ≡ settings_of b
settings-normalized rules lawful b =
    let one : Buffer = round_one rules b in
    preserved_by_rounds rules (λ c. settings_of c ≡ settings_of b) b
    (λ so_far. ap settings_of (without_items-marks_ordered rules.reorder lawful one) ∙ so_far)
    (λ c so_far. settings-cgj c ∙ so_far)
    (λ c so_far. ap settings_of (spans_merged_out_is (absorbed_spans (recomposed_items rules c.items)) c) ∙ so_far)
    (ap settings_of (without_items-all_merged (variation_sequences_from rules.unicode rules.face 0 (sequences b.items)) b))
