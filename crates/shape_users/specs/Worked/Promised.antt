-- What a caller knows of the glyphs of a text, on glyphs that are written by hand: what each fact takes, and what it refuses.
use Rattle.std.specs.Prelude.{◌≡◌, ◌≤◌, ℕ, true, false, List, [], ◌∷◌, length, Contains}
use Rattle.shape_items.specs.Buffer.{Buffer, new_buffer}
use Rattle.shape_items.specs.Clusters.{clusters}
use Rattle.shape_items.specs.Flags.{HasOneSetOfFlags}
use Rattle.shape_items.specs.Items.{Item}
use Rattle.shape_items.specs.PreservesFlags.{some_has}
use Rattle.shape_buffer.specs.Guess.{guessed}
use Rattle.shape_common.specs.declared.text_types.BufferClusterLevel.TheVariants.{MonotoneGraphemes, Characters}
use Rattle.shape_common.specs.declared.text_types.Direction.TheVariants.{Invalid, LeftToRight, RightToLeft}
use Rattle.shape_lines.specs.Worked.CanCut.{marked, in_clusters}
use Rattle.shape_normalize.specs.CanonicalForm.{AreEquivalent}
use Rattle.shape_pipeline.specs.Canonical.{prepared_characters, normalised_characters, HasPlainText, HasCanonicalText}
use Rattle.shape_pipeline.specs.Order.{grapheme_clusters}
use Rattle.shape_plan.specs.Rules.{has_glyph}
use Rattle.shape_plan.specs.Run.{Run}
use Rattle.shape_users.specs.PlainGlyphs.{ArePlainGlyphs, StandInOrder, HasPlainForm}

-- items that run to the right, and others to the left
abbrev pub rightward : List Item → Buffer
rightward items = record new_buffer { items = items; direction = LeftToRight }

abbrev pub leftward : List Item → Buffer
leftward items = record new_buffer { items = items; direction = RightToLeft }

-- ---- in every direction and at every level

-- one letter that is told to run to the right
abbrev pub letter : Buffer
letter = rightward (in_clusters (0 ∷ []))

-- and with no direction, and by a caller who asks where it is unsafe to concat (64)
abbrev pub untold : Buffer
untold = record letter { direction = Invalid }

abbrev pub asking : Buffer
asking = record letter { flags = record { 0 = 64 } }

pub record GlyphsOfLetters : Type 0 where
  pub two_glyphs : ArePlainGlyphs letter (rightward (in_clusters (0 ∷ 0 ∷ [])))
  pub other_direction : ArePlainGlyphs letter (leftward (in_clusters (0 ∷ []))) → ⊥
  pub any_direction : ArePlainGlyphs untold (leftward (in_clusters (0 ∷ [])))
  -- unsafe to break (1) at one of two glyphs in a cluster
  pub half_unsafe : ArePlainGlyphs letter (rightward (marked 0 1 ∷ marked 0 0 ∷ [])) → ⊥
  -- unsafe to concat (2) too
  pub unasked : ArePlainGlyphs letter (rightward (marked 0 3 ∷ [])) → ⊥
  pub asked : ArePlainGlyphs asking (rightward (marked 0 3 ∷ []))
  -- 64 for each of 256 characters are 16384, and each further one has 64 more
  pub of_256 : (text glyphs : Buffer) → length text.items ≡ 256 → ArePlainGlyphs text glyphs → length glyphs.items ≤ 16384
  pub of_257 : (text glyphs : Buffer) → length text.items ≡ 257 → ArePlainGlyphs text glyphs → length glyphs.items ≤ 16448
  pub as_many_as_that : (text glyphs : Buffer) → length text.items ≡ 257 → length glyphs.items ≡ 16448
      → glyphs.direction ≡ text.direction → HasOneSetOfFlags glyphs.items → some_has 2 glyphs.items ≡ false → ArePlainGlyphs text glyphs

-- ---- the order of clusters

-- two letters in clusters 0 and 2
abbrev pub two_letters : Buffer
two_letters = record (rightward (in_clusters (0 ∷ 2 ∷ []))) { cluster_level = Characters }

pub record OrderOfGlyphs (run : Run) : Type 0 where
  pub to_the_right : StandInOrder run two_letters (rightward (in_clusters (0 ∷ 2 ∷ [])))
  pub to_the_left : StandInOrder run two_letters (leftward (in_clusters (2 ∷ 0 ∷ [])))
  pub falling : StandInOrder run two_letters (rightward (in_clusters (2 ∷ 0 ∷ []))) → ⊥
  pub rising : StandInOrder run two_letters (leftward (in_clusters (0 ∷ 2 ∷ []))) → ⊥
  pub between : StandInOrder run two_letters (rightward (in_clusters (0 ∷ 1 ∷ []))) → ⊥
  -- at MONOTONE_GRAPHEMES each is that of the first character of a grapheme
  pub of_firsts : (text glyphs : Buffer) (k : ℕ) → text.cluster_level ≡ MonotoneGraphemes → StandInOrder run text glyphs
      → Contains (clusters glyphs.items) k → Contains (grapheme_clusters run (guessed run.unicode text)) k

-- ---- the normalised list

pub record FormOfTexts (run : Run) (text : Buffer) : Type 0 where
  -- a character without a glyph was in the text
  pub without_glyph : (c : ℕ) → HasPlainForm run text → normalised_characters run text ≡ c ∷ []
      → has_glyph run.rules.face.nominal_glyph c ≡ false → Contains (prepared_characters run text) c
  pub equivalent : HasPlainForm run text → HasPlainText run text
      → AreEquivalent run.rules (prepared_characters run text) (normalised_characters run text)
  pub other_text : (other : Buffer) → HasPlainForm run text → HasCanonicalText run text → HasCanonicalText run other
      → (AreEquivalent run.rules (prepared_characters run text) (prepared_characters run other) → ⊥)
      → normalised_characters run text ≡ normalised_characters run other → ⊥
  pub other_spelling : (other : Buffer) → HasPlainForm run text → HasCanonicalText run text → HasCanonicalText run other
      → AreEquivalent run.rules (prepared_characters run text) (prepared_characters run other)
      → normalised_characters run text ≡ normalised_characters run other

pub record WorkedPromises : Type 0 where
  pub letters : GlyphsOfLetters
  pub order : (run : Run) → OrderOfGlyphs run
  pub form : (run : Run) (text : Buffer) → FormOfTexts run text
