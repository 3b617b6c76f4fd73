-- What normalising promises of a buffer, and comparing of two.
use Rattle.std.specs.Prelude.{◌≡◌, ◌≤◌, ◌↔◌, Bool, IsTrue, All, length}
use Rattle.shape_items.specs.Buffer.{Buffer, limit_of}
use Rattle.shape_items.specs.Clusters.{clusters}
use Rattle.shape_items.specs.ClusterOrder.{PreservesClusters, IsMonotoneLevel}
use Rattle.shape_plan.specs.Rules.{Rules}
use Rattle.shape_normalize.specs.CanonicalForm.{text_of, AreEquivalent, CanonicalFormPremises, NormalizesCanonically}
use Rattle.shape_normalize.specs.Normalized.{normalized, BroughtInHaveGlyphs, HasItemGlyph, HookPreservesClusters, PreservesFeatures, PreservesHidden}
use Rattle.shape_normalize.specs.Normalized.{OrdersExpanded, Recomposes}
use Rattle.shape_normalize.specs.Origins.{ComesByPlace}
use Rattle.shape_normalize.specs.RoundOne.{round_one}

-- what is known of the normalised list of a text: inserted characters have glyphs, each item has the glyph of its
-- character or what replaces it, and feature bits of the text; hidden CGJ; where each item came from; canonical form;
-- marks in order, and recomposed; and clusters in their order
pub record NormalForm (rules : Rules) (text list : Buffer) : Type 0 where
  pub brought_in : BroughtInHaveGlyphs rules.face.nominal_glyph (text_of text) (text_of list)
  pub item_glyphs : All (HasItemGlyph rules text) list.items
  pub features : PreservesFeatures text list
  pub cgj : PreservesHidden rules text list
  pub by_place : ComesByPlace rules text list
  pub canonical_form : NormalizesCanonically rules text list
  pub ordered : OrdersExpanded rules text list
  pub recomposed : Recomposes rules text list
  pub clusters : IsMonotoneLevel text.cluster_level → HookPreservesClusters rules → PreservesClusters (clusters text.items) (clusters list.items)

-- normalising leaves exactly the normalised list, in its form; it is within the buffer's limit, and so was the
-- expanded one
pub record Normalizes (rules : Rules) (old new : Buffer) : Type 0 where
  pub made : new ≡ normalized rules old
  pub form : NormalForm rules old new
  pub within : length new.items ≤ limit_of old
  pub counted : length (round_one rules old).items ≤ limit_of old

-- two buffers are normalised, and called the same exactly if they have the same characters then; so, if both qualify
-- for canonical form, exactly if they were equivalent
pub record AreCompared (rules : Rules) (a b new_a new_b : Buffer) (same : Bool) : Type 0 where
  pub first : Normalizes rules a new_a
  pub second : Normalizes rules b new_b
  pub equal : IsTrue same ↔ (text_of new_a ≡ text_of new_b)
  pub equivalent : CanonicalFormPremises rules a → CanonicalFormPremises rules b → IsTrue same ↔ AreEquivalent rules (text_of a) (text_of b)
