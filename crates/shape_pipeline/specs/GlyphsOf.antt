-- The whole promise of `shape` and `shape_with_plan`: one record of the glyphs of a text.
use Rattle.std.specs.Prelude.{◌≡◌, ◌≤◌, length}
use Rattle.shape_items.specs.Buffer.{Buffer, run_limit}
use Rattle.shape_buffer.specs.Guess.{guessed}
use Rattle.shape_plan.specs.Run.{Run}
use Rattle.shape_pipeline.specs.Canonical.{ListIsCanonical}
use Rattle.shape_pipeline.specs.Headline.{target_of, prepared_text, normalised_list, IsMadeOfNormalisedList, NormalForm, FlagsAreByCluster}
use Rattle.shape_pipeline.specs.Order.{ClustersComeInOrder}
use Rattle.shape_pipeline.specs.Shaped.{shaped, Shapes, ShapingPasses}

-- the glyphs of a text: exactly what its run makes of it, and what is known of that
pub record AreGlyphsOf (run : Run) (text result : Buffer) : Type 0 where
  pub glyphs : result ≡ shaped run text
  -- they run in the direction of the text
  pub direction : result.direction ≡ target_of run text
  -- they are made of the normalised list, which has its form, and is canonical if hooks preserve equivalence
  pub made : IsMadeOfNormalisedList run text result
  pub form : NormalForm run.rules (prepared_text run text) (normalised_list run text)
  pub canonical : ListIsCanonical run text
  -- clusters and flags, if hooks and lookups preserve them
  pub clusters : ClustersComeInOrder run (target_of run text) (guessed run.unicode text) result
  pub flags : FlagsAreByCluster run text result
  -- within the run's limit, which no step passed
  pub within : length result.items ≤ run_limit (length text.items)
  pub counted : Shapes run (target_of run text) (guessed run.unicode text) result

-- some step of the run over a text would make a list past the run's limit
abbrev pub TextPasses : Run → Buffer → Type 0
TextPasses run text = ShapingPasses run (target_of run text) (guessed run.unicode text)
