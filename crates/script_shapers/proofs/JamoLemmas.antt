-- The masks of jamo preserve the flags of glyphs.
use Rattle.std.proofs.Common.{ℕ, ◌==◌, true, false, if◌then◌else◌, refl}
use Rattle.shape_common.specs.declared.text_types.hb_tag_t.{hb_tag_t}
use Rattle.shape_buffer.specs.Layout.{HasNoDefinedFlag}
use Rattle.shape_buffer.specs.Preservation.{IsFlagPreserving}
use Rattle.shape_buffer.specs.Walks.{items_mapped}
use Rattle.script_shapers.specs.Hangul.{jamo_mask, jamo_masks, jamo_masked}
use Rattle.script_shapers.specs.declared.hangul.TheConstants.{LJMO, VJMO, TJMO}
use Rattle.letter_joining.proofs.MaskLemmas.{added_flag, flags-mapped}

no_flag : (mask : hb_tag_t → ℕ) → ((tag : hb_tag_t) → HasNoDefinedFlag (mask tag)) → (kind : ℕ) → HasNoDefinedFlag (jamo_mask (jamo_masks mask) kind)
no_flag mask none kind =
    elim (kind == 1) as (λ a. HasNoDefinedFlag (if a then mask LJMO else (if kind == 2 then mask VJMO else (if kind == 3 then mask TJMO else 0)))) [
      | true ↦ none LJMO
      | false ↦ elim (kind == 2) as (λ a. HasNoDefinedFlag (if a then mask VJMO else (if kind == 3 then mask TJMO else 0))) [
        | true ↦ none VJMO
        | false ↦ elim (kind == 3) as (λ a. HasNoDefinedFlag (if a then mask TJMO else 0)) [ true ↦ none TJMO | false ↦ refl ]
      ]
    ]

pub flags-jamo : (mask : hb_tag_t → ℕ) → ((tag : hb_tag_t) → HasNoDefinedFlag (mask tag))
    → IsFlagPreserving (items_mapped (jamo_masked (jamo_masks mask)))
flags-jamo mask none = flags-mapped (jamo_masked (jamo_masks mask)) (λ flag defined x.
    added_flag (jamo_mask (jamo_masks mask) x.properties.shaper_auxiliary) flag x (no_flag mask none x.properties.shaper_auxiliary) defined)
