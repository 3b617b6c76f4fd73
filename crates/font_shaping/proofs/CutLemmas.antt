-- glyphs of a string can be cut into lines
use Rattle.std.proofs.Common.{ℕ, Bool, true, false, List, length, inl, inr}
use Rattle.std.proofs.lemmas.List.Elements.{Contains-get_or}
use Rattle.shape_common.specs.Direction.{is_backward}
use Rattle.shape_common.specs.Unicode.{UnicodeMeaning}
use Rattle.shape_items.specs.Buffer.{Buffer}
use Rattle.shape_items.specs.ClusterOrder.{IsOrderedFor}
use Rattle.shape_items.specs.Clusters.{clusters}
use Rattle.shape_lines.specs.CanCut.{CanCut, IsMonotone}
use Rattle.shape_pipeline.specs.Strings.{AreGlyphsOfString}

monotone : (back : Bool) (ks : List ℕ) → IsOrderedFor back ks → IsMonotone ks
monotone true ks falls = inr falls
monotone false ks rises = inl rises

-- each cluster is a place of the string, and so below its end
pub can-cut : {unicode : UnicodeMeaning} {bytes : List ℕ} {glyphs : Buffer} → AreGlyphsOfString unicode bytes glyphs
    → CanCut glyphs (length bytes)
can-cut {unicode} {bytes} {glyphs} are = record {
  monotone = monotone (is_backward glyphs.direction) (clusters glyphs.items) are.ordered;
  one_set = are.one_set;
  below = λ i d lt. (are.places _ (Contains-get_or (clusters glyphs.items) i d lt)).within;
}
