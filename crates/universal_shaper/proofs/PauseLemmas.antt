-- What the shaper does at its pauses preserves the order of clusters and the flags of glyphs.
use Rattle.std.proofs.Common.{ℕ, ◌==◌, Bool, true, false, if◌then◌else◌, Option}
use Rattle.shape_common.specs.Face.{FaceMeaning}
use Rattle.shape_common.specs.declared.text_types.Script.{Script}
use Rattle.shape_common.specs.declared.text_types.hb_tag_t.{hb_tag_t}
use Rattle.shape_items.specs.Buffer.{Buffer}
use Rattle.shape_items.specs.PreservesFlags.{PreservesFlags}
use Rattle.shape_items.proofs.Flags.FlagLemmas.{PreservesFlags-same}
use Rattle.shape_buffer.specs.Layout.{HasNoDefinedFlag, MapMeaning, LawfulMasks}
use Rattle.shape_buffer.specs.Preservation.{IsClusterPreserving, IsFlagPreserving}
use Rattle.letter_joining.specs.Forms.{masks_by}
use Rattle.letter_joining.specs.Flags.{joined}
use Rattle.letter_joining.specs.Features.{is_mongolian}
use Rattle.letter_joining.proofs.FlagLemmas.{flags-joined}
use Rattle.syllabic.proofs.PreservationLemmas.{Keeps, Keeps-same, Keeps-then, Preserved, Preserved-same, Preserved-kept}
use Rattle.universal_shaper.specs.Joining.{joins, joined_if}
use Rattle.universal_shaper.specs.Masks.{rephas_masked}
use Rattle.universal_shaper.specs.Pauses.{form_masks, rephas_masked_if, forms_set_unless, set_up, rephas_recorded_if, made_by_pause}
use Rattle.universal_shaper.specs.Recording.{substitutions_cleared, rephas_recorded, prebases_recorded}
use Rattle.universal_shaper.specs.Reordering.{all_reordered}
use Rattle.universal_shaper.specs.Syllables.{found}
use Rattle.universal_shaper.specs.declared.requests.TheConstants.{RPHF, ISOL, INIT, MEDI, FINA}
use Rattle.universal_shaper.proofs.MaskLemmas.{Keeps-rephas, Keeps-forms, FormsFlagless, own_masks-flagless}
use Rattle.universal_shaper.proofs.RecordingLemmas.{Keeps-cleared, Keeps-rephas_recorded, Keeps-prebases_recorded}
use Rattle.universal_shaper.proofs.ReorderingLemmas.{Preserved-reordered}
use Rattle.universal_shaper.proofs.SyllableLemmas.{Keeps-found}

module _ (map : MapMeaning) (lawful : LawfulMasks map) where
  Keeps-rephas_if : (b : Buffer) → Keeps b (rephas_masked_if (map.one_mask RPHF) b)
  Keeps-rephas_if b = elim (map.one_mask RPHF == 0) as (λ t. Keeps b (if t then b else rephas_masked (map.one_mask RPHF) b)) [
    | true ↦ Keeps-same b
    | false ↦ Keeps-rephas (map.one_mask RPHF) (lawful.one_mask RPHF) b
  ]

  forms-flagless : FormsFlagless (form_masks map)
  forms-flagless = own_masks-flagless _ map.global_mask (record {
    isol = lawful.one_mask ISOL;
    init = lawful.one_mask INIT;
    medi = lawful.one_mask MEDI;
    fina = lawful.one_mask FINA;
  })

  Keeps-forms_unless : (joins : Bool) (b : Buffer) → Keeps b (forms_set_unless joins (form_masks map) b)
  Keeps-forms_unless true b = Keeps-same b
  Keeps-forms_unless false b = Keeps-forms (form_masks map) forms-flagless b

  Keeps-set_up : (joins : Bool) (b : Buffer) → Keeps b (set_up (map.one_mask RPHF) joins (form_masks map) b)
  Keeps-set_up joins b =
      let one = found b in
      let two = rephas_masked_if (map.one_mask RPHF) one in
      Keeps-then b one (set_up (map.one_mask RPHF) joins (form_masks map) b) (Keeps-found b)
      (Keeps-then one two (set_up (map.one_mask RPHF) joins (form_masks map) b) (Keeps-rephas_if one) (Keeps-forms_unless joins two))

  Keeps-recorded_if : (b : Buffer) → Keeps b (rephas_recorded_if (map.one_mask RPHF) b)
  Keeps-recorded_if b = elim (map.one_mask RPHF == 0) as (λ t. Keeps b (if t then b else rephas_recorded (map.one_mask RPHF) b)) [
    | true ↦ Keeps-same b
    | false ↦ Keeps-rephas_recorded (map.one_mask RPHF) b
  ]

  module _ (script : Option Script) (face : FaceMeaning) where
    by_tests : (one two three four five : Bool) (b : Buffer) → Preserved b
        ((if one then set_up (map.one_mask RPHF) (joins script) (form_masks map)
        else if two then substitutions_cleared
        else if three then rephas_recorded_if (map.one_mask RPHF)
        else if four then prebases_recorded
        else if five then all_reordered face
        else (λ c. c)) b)
    by_tests true two three four five b = Preserved-kept b _ (Keeps-set_up (joins script) b)
    by_tests false true three four five b = Preserved-kept b _ (Keeps-cleared b)
    by_tests false false true four five b = Preserved-kept b _ (Keeps-recorded_if b)
    by_tests false false false true five b = Preserved-kept b _ (Keeps-prebases_recorded b)
    by_tests false false false false true b = Preserved-reordered face b
    by_tests false false false false false b = Preserved-same b

    Preserved-pause : (n : ℕ) (b : Buffer) → Preserved b (made_by_pause n map script face b)
    Preserved-pause n b = by_tests (n == 1) (n == 2) (n == 3) (n == 4) (n == 5) b

    pub pause-order : (n : ℕ) → IsClusterPreserving (made_by_pause n map script face)
    pause-order n b monotone = (Preserved-pause n b).order monotone

    pub pause-flags : (n : ℕ) → IsFlagPreserving (made_by_pause n map script face)
    pause-flags n b = (Preserved-pause n b).flags

pub joined_if-flags : (mask : hb_tag_t → ℕ) → ((tag : hb_tag_t) → HasNoDefinedFlag (mask tag)) → (script : Option Script)
    → IsFlagPreserving (joined_if (masks_by mask) script)
joined_if-flags mask none script b =
    elim (joins script) as (λ t. PreservesFlags b (if t then joined (masks_by mask) (is_mongolian script) b else b)) [
      | true ↦ flags-joined mask none (is_mongolian script) b
      | false ↦ PreservesFlags-same b
    ]
