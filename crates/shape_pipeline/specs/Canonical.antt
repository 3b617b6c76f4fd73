-- Canonical form end to end: what a run's normalised list is to its prepared text, and two such lists to each other.
use Rattle.std.specs.Prelude.{◌≡◌, ◌↔◌, ℕ, true, false, List, ◌++◌, Some, None}
use Rattle.canonical_form.specs.Expanded.{begins_with_mark}
use Rattle.shape_items.specs.Buffer.{Buffer}
use Rattle.shape_buffer.specs.Guess.{guessed}
use Rattle.shape_items.specs.Items.{is_mark_item}
use Rattle.shape_common.specs.Unicode.{is_mark}
use Rattle.shape_normalize.specs.CanonicalForm.{text_of, AreEquivalent, HasCanonicalForm, HasLawfulHooks, HasNoSelector, CanonicalTextPremises}
use Rattle.shape_normalize.specs.CanonicalForm.{IsRecomposedForm}
use Rattle.shape_normalize.specs.RoundOne.{round_one}
use Rattle.shape_normalize.specs.RoundTwo.{has_mark_past_first}
use Rattle.shape_plan.specs.Run.{Run}
use Rattle.shape_plan.specs.Shaper.{HookMeaning}
use Rattle.shape_prepare.specs.PreservedCharacters.{LeavesCharacters}
use Rattle.shape_prepare.specs.PreparedPoint.{PreservesPrepared}
use Rattle.shape_pipeline.specs.Shaped.{entered}
use Rattle.shape_pipeline.specs.Headline.{target_of, prepared_text, normalised_list}

-- the characters of a text as normalising begins
abbrev pub prepared_characters : Run → Buffer → List ℕ
prepared_characters run text = text_of (prepared_text run text)

-- and those of its normalised list
abbrev pub normalised_characters : Run → Buffer → List ℕ
normalised_characters run text = text_of (normalised_list run text)

-- the equivalence premises on hooks: they are lawful, none reorders marks, and a given `preprocess_text` leaves the
-- mark and the ccc of each item those of its character
pub record RunPreservesEquivalence (run : Run) : Type 0 where
  pub lawful_hooks : HasLawfulHooks run.rules
  pub no_reordering : run.rules.reorder ≡ None
  pub preprocess : (hooks : HookMeaning) → run.hooks ≡ Some hooks → run.constants.has_preprocess_text ≡ true
      → PreservesPrepared run.unicode hooks.preprocess

-- the text as normalising begins has no variation selector
abbrev pub HasPlainText : Run → Buffer → Type 0
HasPlainText run text = HasNoSelector run.rules (prepared_characters run text)

-- and it is one that canonical form is asked of: in a mode that decomposes fully, with glyphs, short runs and marks that
-- end in order
pub record HasCanonicalText (run : Run) (text : Buffer) : Type 0 where
  pub plain : HasPlainText run text
  pub canonical : CanonicalTextPremises run.rules (prepared_characters run text)

-- a text is cut in two before a character that is no mark and whose choice begins with none, and each part has a mark
-- past its first
pub record IsCutInTwo (run : Run) (text front back : Buffer) : Type 0 where
  pub parts : prepared_characters run text ≡ prepared_characters run front ++ prepared_characters run back
  pub plain : HasPlainText run text
  pub plain_front : HasPlainText run front
  pub plain_back : HasPlainText run back
  pub unmarked : begins_with_mark is_mark_item (prepared_text run back).items ≡ false
  pub unmarked_choice : begins_with_mark (is_mark run.rules.unicode) (text_of (round_one run.rules (prepared_text run back))) ≡ false
  pub front_marked : has_mark_past_first (prepared_text run front).items ≡ true
  pub back_marked : has_mark_past_first (prepared_text run back).items ≡ true

-- the normalised list is equivalent to the prepared text, canonical or recomposed of a canonical one, the same as
-- another text's exactly when both are equivalent; it depends on characters alone, and may be made part by part
pub record HasCanonicalList (run : Run) (text : Buffer) : Type 0 where
  pub equivalent : HasPlainText run text → AreEquivalent run.rules (prepared_characters run text) (normalised_characters run text)
  pub canonical : run.rules.recomposes ≡ false → HasCanonicalText run text → HasCanonicalForm run.rules (normalised_characters run text)
  pub recomposed : run.rules.recomposes ≡ true → HasCanonicalText run text
      → IsRecomposedForm run.rules (prepared_characters run text) (normalised_characters run text)
  pub decides : (other : Buffer) → HasCanonicalText run text → HasCanonicalText run other
      → (normalised_characters run text ≡ normalised_characters run other)
      ↔ AreEquivalent run.rules (prepared_characters run text) (prepared_characters run other)
  pub by_characters : (other : Buffer) → HasPlainText run text → HasPlainText run other
      → prepared_characters run text ≡ prepared_characters run other
      → normalised_characters run text ≡ normalised_characters run other
  pub cuts : (front back : Buffer) → IsCutInTwo run text front back
      → normalised_characters run text ≡ normalised_characters run front ++ normalised_characters run back

-- so it is if hooks preserve equivalence
abbrev pub ListIsCanonical : Run → Buffer → Type 0
ListIsCanonical run text = RunPreservesEquivalence run → HasCanonicalList run text

-- preparing leaves the characters of a text, with script and direction guessed: no dotted circle goes in, nothing is
-- reversed, mirrored or taken in its vertical form, and a given `preprocess_text` leaves characters
abbrev pub LeavesText : Run → Buffer → Type 0
LeavesText run text = LeavesCharacters run (target_of run text) (entered (guessed run.unicode text))

-- a text that canonical form can be asked of by its own characters: preparing leaves them, none is a variation
-- selector, and canonical form is asked of them
pub record HasOwnCharacters (run : Run) (text : Buffer) : Type 0 where
  pub left : LeavesText run text
  pub plain : HasNoSelector run.rules (text_of text)
  pub canonical : CanonicalTextPremises run.rules (text_of text)

-- two texts that preparing leaves are led to the same normalised characters exactly when they are equivalent
abbrev pub SpellingsMeet : Run → Type 0
SpellingsMeet run =
    (one other : Buffer) → HasOwnCharacters run one → HasOwnCharacters run other
    → (normalised_characters run one ≡ normalised_characters run other) ↔ AreEquivalent run.rules (text_of one) (text_of other)
