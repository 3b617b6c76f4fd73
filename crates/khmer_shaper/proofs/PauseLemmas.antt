-- What the shaper does at its pauses preserves the order of clusters and the flags of glyphs.
use Rattle.std.proofs.Common.{ℕ, ◌==◌, Bool, true, false, if◌then◌else◌, refl, bit_or}
use Rattle.shape_common.specs.Face.{FaceMeaning}
use Rattle.shape_items.specs.Buffer.{Buffer}
use Rattle.shape_buffer.specs.Layout.{MapMeaning, LawfulMasks}
use Rattle.shape_buffer.specs.Preservation.{IsClusterPreserving, IsFlagPreserving}
use Rattle.shape_buffer.proofs.Flags.FeatureBitLemmas.{feature-or}
use Rattle.syllabic.specs.Categories.{categorized, with_category}
use Rattle.syllabic.specs.Walking.{marked}
use Rattle.syllables.specs.Grammar.{first_syllable}
use Rattle.syllables.specs.KhmerGrammar.{khmer_grammar}
use Rattle.syllabic.proofs.PreservationLemmas.{Keeps, Keeps-then, Keeps-mapped, Keeps-each_syllable, Keeps-marked, Preserved, Preserved-same, Preserved-kept}
use Rattle.syllabic.proofs.ScanningLemmas.{Keeps-syllables}
use Rattle.khmer_shaper.specs.Pauses.{khmer_masks, made_by_pause}
use Rattle.khmer_shaper.specs.Reordering.{all_reordered}
use Rattle.khmer_shaper.specs.Syllables.{found, numbered}
use Rattle.khmer_shaper.specs.declared.requests.TheConstants.{PREF, BLWF, ABVF, PSTF, CFAR}
use Rattle.khmer_shaper.proofs.ReorderingLemmas.{MasksFlagless, Preserved-reordered}

Keeps-found : (b : Buffer) → Keeps b (found b)
Keeps-found b =
    let one = categorized b in
    let two = numbered one in
    Keeps-then b one (found b) (Keeps-mapped with_category (λ x. refl) (λ x. refl) b)
    (Keeps-then one two (found b) (Keeps-syllables (first_syllable khmer_grammar 2) 0 one) (Keeps-each_syllable marked Keeps-marked two))

module _ (map : MapMeaning) (lawful : LawfulMasks map) where
  flagless : MasksFlagless (khmer_masks map)
  flagless = record {
    after_base = feature-or (bit_or (map.one_mask BLWF) (map.one_mask ABVF)) (map.one_mask PSTF)
        (feature-or (map.one_mask BLWF) (map.one_mask ABVF) (lawful.one_mask BLWF) (lawful.one_mask ABVF)) (lawful.one_mask PSTF);
    prebase = lawful.one_mask PREF;
    after_ro = lawful.one_mask CFAR;
  }

  module _ (face : FaceMeaning) where
    by_tests : (one two : Bool) (b : Buffer) → Preserved b
        ((if one then found else if two then all_reordered face (khmer_masks map) else (λ c. c)) b)
    by_tests true two b = Preserved-kept b (found b) (Keeps-found b)
    by_tests false true b = Preserved-reordered (khmer_masks map) flagless face b
    by_tests false false b = Preserved-same b

    pub pause-order : (n : ℕ) → IsClusterPreserving (made_by_pause n map face)
    pause-order n b monotone = (by_tests (n == 1) (n == 2) b).order monotone

    pub pause-flags : (n : ℕ) → IsFlagPreserving (made_by_pause n map face)
    pause-flags n b = (by_tests (n == 1) (n == 2) b).flags
