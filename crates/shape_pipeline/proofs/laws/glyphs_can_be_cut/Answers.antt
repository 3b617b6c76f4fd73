use Rattle.std.proofs.Common.{ℕ, ◌<◌, Bool, true, false, List, length, inl, inr, arith, sym, subst}
use Rattle.std.proofs.lemmas.List.{get_or-map, length-map}
use Rattle.std.proofs.lemmas.List.Elements.{All-contains, Contains-get_or}
use Rattle.std.specs.Prelude.{All}
use Rattle.shape_items.specs.ClusterOrder.{IsOrderedFor}
use Rattle.shape_items.specs.Clusters.{clusters}
use Rattle.shape_common.specs.Direction.{is_backward}
use Rattle.shape_items.specs.Items.{Item, new_item}
use Rattle.shape_lines.specs.CanCut.{IsMonotone}
use Rattle.shape_pipeline.proofs.laws.glyphs_can_be_cut.Goals as goal

monotone : (back : Bool) (ks : List ℕ) → IsOrderedFor back ks → IsMonotone ks
monotone true ks falls = inr falls
monotone false ks rises = inl rises

clusters_below : (items : List Item) (end : ℕ) → All (λ item. item.cluster < end) items → All (λ k. k < end) (clusters items)
clusters_below items end below i d lt =
    let few = length-map items (λ (item : Item). item.cluster) in
    let here : i < length items = omega (arith, few, lt) in
    subst (λ k. k < end) (sym (get_or-map (λ (item : Item). item.cluster) items i (new_item 0 0) d here)) (below i (new_item 0 0) here)

pub returns : goal.returns
returns c = λ run target text glyphs text_end come flagged preserves preserves_flags level rising below.
    let order = come preserves level rising in
    record {
      monotone = monotone (is_backward target) (clusters glyphs.items) order.ordered;
      one_set = (flagged preserves_flags).one_set;
      below = λ i d lt. All-contains (λ k. k < text_end) (clusters text.items) _ (clusters_below text.items text_end below)
          (order.from_text _ (Contains-get_or (clusters glyphs.items) i d lt));
    }
