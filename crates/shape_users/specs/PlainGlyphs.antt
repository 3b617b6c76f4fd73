-- What a caller knows of glyphs, in plain words.
use Rattle.std.specs.Prelude.{◌≡◌, ◌≢◌, ◌==◌, ◌⊎◌, ◌↔◌, ◌<◌, ◌≤◌, ◌*◌, ◌++◌, ℕ, true, false, List, [], ◌∷◌, length, All, Contains}
use Rattle.std.specs.Int.RustNames.{bit_and}
use Rattle.shape_items.specs.Buffer.{Buffer, limit_of}
use Rattle.shape_items.specs.ClusterOrder.{IsOrderedFor}
use Rattle.shape_items.specs.Clusters.{clusters}
use Rattle.shape_items.specs.Flags.{HasOneSetOfFlags}
use Rattle.shape_items.specs.Items.{Item}
use Rattle.shape_items.specs.PreservesFlags.{some_has}
use Rattle.shape_common.specs.Direction.{is_backward}
use Rattle.shape_common.specs.Face.{FaceMeaning}
use Rattle.shape_common.specs.declared.text_types.BufferClusterLevel.TheVariants.{MonotoneGraphemes}
use Rattle.shape_common.specs.declared.text_types.Direction.TheVariants.{Invalid}
use Rattle.shape_buffer.specs.Guess.{guessed}
use Rattle.shape_buffer.specs.Outcome.{Step, run_steps}
use Rattle.shape_normalize.specs.CanonicalForm.{AreEquivalent}
use Rattle.shape_normalize.specs.Normalized.{HasItemGlyph, PreservesFeatures, Recomposes}
use Rattle.shape_normalize.specs.Origins.{ComesByPlace}
use Rattle.shape_plan.specs.Rules.{has_glyph}
use Rattle.shape_plan.specs.Run.{Run}
use Rattle.shape_pipeline.specs.Canonical.{prepared_characters, normalised_characters, HasPlainText, HasCanonicalText}
use Rattle.shape_pipeline.specs.Headline.{target_of, prepared_text, normalised_list}
use Rattle.shape_pipeline.specs.Order.{grapheme_clusters}
use Rattle.shape_pipeline.specs.Shaped.{all_steps, entered}

-- each cluster of the glyphs is one of the text's
abbrev pub AreOfText : List Item → List Item → Type 0
AreOfText text glyphs = (k : ℕ) → Contains (clusters glyphs) k → Contains (clusters text) k

-- each character has a glyph, unless the text has it already
abbrev pub HaveGlyphs : FaceMeaning → List ℕ → List ℕ → Type 0
HaveGlyphs face text characters = All (λ c. (has_glyph face.nominal_glyph c ≡ true) ⊎ Contains text c) characters

-- the glyphs of a text, in every direction and at every level: they run where the text was told to run, neighbours in one
-- cluster have the same flags, none is unsafe to concat (2) unless the text asks for it (64), and there are at most 64 for
-- each character, or 16384
pub record ArePlainGlyphs (text glyphs : Buffer) : Type 0 where
  pub direction : text.direction ≢ Invalid → glyphs.direction ≡ text.direction
  pub one_set : HasOneSetOfFlags glyphs.items
  pub concat : (bit_and text.flags.0 64 == 64) ≡ false → some_has 2 glyphs.items ≡ false
  pub few : length text.items ≤ 256 → length glyphs.items ≤ 16384
  pub many : 256 ≤ length text.items → length glyphs.items ≤ length text.items * 64

-- their clusters are the text's, at MONOTONE_GRAPHEMES those of its graphemes' first characters, and stand in the order in
-- which the glyphs run
pub record StandInOrder (run : Run) (text glyphs : Buffer) : Type 0 where
  pub of_text : AreOfText text.items glyphs.items
  pub of_firsts : text.cluster_level ≡ MonotoneGraphemes
      → (k : ℕ) → Contains (clusters glyphs.items) k → Contains (grapheme_clusters run (guessed run.unicode text)) k
  pub ordered : IsOrderedFor (is_backward glyphs.direction) (clusters glyphs.items)

-- the normalised list that they are made of: each character that the text lacks has a glyph, each item has the glyph of its
-- character or of what replaces it, feature bits and places are those of the text's items, and marks were composed by the
-- standard's rule. Without a variation selector it is equivalent to the text; if canonical form is asked of both, the lists
-- of two texts have the same characters exactly when the texts are equivalent
pub record HasPlainForm (run : Run) (text : Buffer) : Type 0 where
  pub brought_in : HaveGlyphs run.rules.face (prepared_characters run text) (normalised_characters run text)
  pub item_glyphs : All (HasItemGlyph run.rules (prepared_text run text)) (normalised_list run text).items
  pub features : PreservesFeatures (prepared_text run text) (normalised_list run text)
  pub places : ComesByPlace run.rules (prepared_text run text) (normalised_list run text)
  pub recomposed : Recomposes run.rules (prepared_text run text) (normalised_list run text)
  pub equivalent : HasPlainText run text → AreEquivalent run.rules (prepared_characters run text) (normalised_characters run text)
  pub decided : (other : Buffer) → HasCanonicalText run text → HasCanonicalText run other
      → (normalised_characters run text ≡ normalised_characters run other)
      ↔ AreEquivalent run.rules (prepared_characters run text) (prepared_characters run other)

-- one step of a run over a text, after those that come before it
pub record OneStep (run : Run) (text : Buffer) : Type 0 where
  pub before : List Step
  pub one : Step
  pub behind : List Step
  pub of_run : all_steps run (target_of run text) ≡ before ++ (one ∷ behind)

-- the buffer that it finds
abbrev pub found : (run : Run) (text : Buffer) → OneStep run text → Buffer
found run text at = run_steps at.before (entered (guessed run.unicode text))

-- each step's list is within the limit that it finds
abbrev pub NoStepPasses : Run → Buffer → Type 0
NoStepPasses run text = (at : OneStep run text) → at.one.counts (found run text at) ≤ limit_of (found run text at)

-- some step's isn't
pub record SomeStepPasses (run : Run) (text : Buffer) : Type 0 where
  pub at : OneStep run text
  pub past : limit_of (found run text at) < at.one.counts (found run text at)

-- nothing is left of a text, and the caller's flags, level and two glyphs stay
pub record IsGivenBackEmpty (text left : Buffer) : Type 0 where
  pub items : left.items ≡ []
  pub positions : left.positions ≡ []
  pub flags : left.flags ≡ text.flags
  pub level : left.cluster_level ≡ text.cluster_level
  pub invisible : left.invisible_glyph ≡ text.invisible_glyph
  pub not_found : left.not_found_variation_selector_glyph ≡ text.not_found_variation_selector_glyph
