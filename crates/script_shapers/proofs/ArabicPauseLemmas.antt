-- The pauses after stch and after rlig preserve clusters and flags.
use Rattle.std.proofs.Common.{◌==◌, ℕ, true, false, Option, if◌then◌else◌}
use Rattle.shape_common.specs.Face.{FaceMeaning}
use Rattle.shape_items.specs.Buffer.{Buffer}
use Rattle.shape_items.specs.PreservesFlags.{PreservesFlags}
use Rattle.shape_items.proofs.Flags.FlagLemmas.{PreservesFlags-same}
use Rattle.shape_buffer.specs.Layout.{MapMeaning}
use Rattle.shape_buffer.specs.Preservation.{PreservesOrder, IsClusterPreserving, IsFlagPreserving}
use Rattle.shape_buffer.proofs.Steps.PreservationLemmas.{PreservesOrder-same}
use Rattle.arabic_fallback.specs.Fallback.{fallback_shaped}
use Rattle.arabic_fallback.specs.declared.classes.GlyphClass.{GlyphClass}
use Rattle.arabic_fallback.proofs.PreservationLemmas.{fallback-order, fallback-flags}
use Rattle.arabic_stretching.specs.Tiles.{tiles_recorded}
use Rattle.arabic_stretching.proofs.PreservationLemmas.{recorded-order, recorded-flags}
use Rattle.script_shapers.specs.ArabicPauses.{lacks_forms, masks_of, tiles_noted, forms_made, made_by_pause}
use Rattle.script_shapers.specs.declared.arabic.requests.TheConstants.{FALLBACK, STRETCH, STCH}

module _ (map : MapMeaning) where
  noted-order : IsClusterPreserving (tiles_noted map)
  noted-order b monotone = elim (map.one_mask STCH == 0) as (λ t. PreservesOrder b (if t then b else tiles_recorded b)) [
    | true ↦ PreservesOrder-same b
    | false ↦ recorded-order b monotone
  ]

  noted-flags : IsFlagPreserving (tiles_noted map)
  noted-flags b = elim (map.one_mask STCH == 0) as (λ t. PreservesFlags b (if t then b else tiles_recorded b)) [
    | true ↦ PreservesFlags-same b
    | false ↦ recorded-flags b
  ]

module _ (map : MapMeaning) (face : FaceMeaning) (classes : ℕ → Option GlyphClass) where
  made-order : IsClusterPreserving (forms_made map face classes)
  made-order b monotone =
      elim (lacks_forms map) as (λ t. PreservesOrder b (if t then fallback_shaped face classes (masks_of map.one_mask) b else b)) [
        | true ↦ fallback-order face classes (masks_of map.one_mask) b monotone
        | false ↦ PreservesOrder-same b
      ]

  made-flags : IsFlagPreserving (forms_made map face classes)
  made-flags b =
      elim (lacks_forms map) as (λ t. PreservesFlags b (if t then fallback_shaped face classes (masks_of map.one_mask) b else b)) [
        | true ↦ fallback-flags face classes (masks_of map.one_mask) b
        | false ↦ PreservesFlags-same b
      ]

module _ (n : ℕ) (map : MapMeaning) (face : FaceMeaning) (classes : ℕ → Option GlyphClass) where
  abbrev later : Buffer → Buffer
  later b = if n == FALLBACK then forms_made map face classes b else b

  later-order : IsClusterPreserving later
  later-order b monotone = elim (n == FALLBACK) as (λ t. PreservesOrder b (if t then forms_made map face classes b else b)) [
    | true ↦ made-order map face classes b monotone
    | false ↦ PreservesOrder-same b
  ]

  later-flags : IsFlagPreserving later
  later-flags b = elim (n == FALLBACK) as (λ t. PreservesFlags b (if t then forms_made map face classes b else b)) [
    | true ↦ made-flags map face classes b
    | false ↦ PreservesFlags-same b
  ]

  pub pause-order : IsClusterPreserving (made_by_pause n map face classes)
  pause-order b monotone = elim (n == STRETCH) as (λ t. PreservesOrder b (if t then tiles_noted map b else later b)) [
    | true ↦ noted-order map b monotone
    | false ↦ later-order b monotone
  ]

  pub pause-flags : IsFlagPreserving (made_by_pause n map face classes)
  pause-flags b = elim (n == STRETCH) as (λ t. PreservesFlags b (if t then tiles_noted map b else later b)) [
    | true ↦ noted-flags map b
    | false ↦ later-flags b
  ]
