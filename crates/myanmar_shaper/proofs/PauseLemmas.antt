-- What the shaper does at its pauses preserves the order of clusters and the flags of glyphs.
use Rattle.std.proofs.Common.{ℕ, ◌==◌, Bool, true, false, if◌then◌else◌, refl}
use Rattle.shape_common.specs.Face.{FaceMeaning}
use Rattle.shape_items.specs.Buffer.{Buffer}
use Rattle.shape_buffer.specs.Preservation.{IsClusterPreserving, IsFlagPreserving}
use Rattle.syllabic.specs.Categories.{categorized, with_category}
use Rattle.syllabic.specs.Walking.{marked}
use Rattle.syllables.specs.Grammar.{first_syllable}
use Rattle.syllables.specs.MyanmarGrammar.{myanmar_grammar}
use Rattle.syllabic.proofs.PreservationLemmas.{Keeps, Keeps-then, Keeps-mapped, Keeps-each_syllable, Keeps-marked, Preserved, Preserved-same, Preserved-kept}
use Rattle.syllabic.proofs.ScanningLemmas.{Keeps-syllables}
use Rattle.myanmar_shaper.specs.Pauses.{made_by_pause}
use Rattle.myanmar_shaper.specs.Reordering.{all_reordered}
use Rattle.myanmar_shaper.specs.Syllables.{found, numbered}
use Rattle.myanmar_shaper.proofs.ReorderingLemmas.{Preserved-reordered}

Keeps-found : (b : Buffer) → Keeps b (found b)
Keeps-found b =
    let one = categorized b in
    let two = numbered one in
    Keeps-then b one (found b) (Keeps-mapped with_category (λ x. refl) (λ x. refl) b)
    (Keeps-then one two (found b) (Keeps-syllables (first_syllable myanmar_grammar 2) 0 one) (Keeps-each_syllable marked Keeps-marked two))

module _ (face : FaceMeaning) where
  by_tests : (one two : Bool) (b : Buffer) → Preserved b
      ((if one then found else if two then all_reordered face else (λ c. c)) b)
  by_tests true two b = Preserved-kept b (found b) (Keeps-found b)
  by_tests false true b = Preserved-reordered face b
  by_tests false false b = Preserved-same b

  pub pause-order : (n : ℕ) → IsClusterPreserving (made_by_pause n face)
  pause-order n b monotone = (by_tests (n == 1) (n == 2) b).order monotone

  pub pause-flags : (n : ℕ) → IsFlagPreserving (made_by_pause n face)
  pause-flags n b = (by_tests (n == 1) (n == 2) b).flags
