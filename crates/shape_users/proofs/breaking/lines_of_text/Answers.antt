use Rattle.std.proofs.Common.{◌≡◌, ◌<◌, ℕ, Bool, true, false, List, inl, inr, arith}
use Rattle.std.proofs.lemmas.List.Elements.{Contains-get_or}
use Rattle.shape_common.specs.Direction.{is_backward}
use Rattle.shape_buffer.specs.declared.buffer.error.ShapeError.TheVariants.{Length}
use Rattle.shape_items.specs.ClusterOrder.{IsOrderedFor}
use Rattle.shape_items.specs.Clusters.{clusters}
use Rattle.shape_lines.specs.CanCut.{IsMonotone}
use Rattle.shape_users.proofs.breaking.lines_of_text.Goals as goal

monotone : (back : Bool) (ks : List ℕ) → IsOrderedFor back ks → IsMonotone ks
monotone true ks falls = inr falls
monotone false ks rises = inl rises

pub cut_lines-requires : goal.cut_lines-requires
cut_lines-requires g c =
    let glyphs = c.in-Ok.glyphs in
    record {
      monotone = monotone (is_backward glyphs.direction) (clusters glyphs.items) c.in-Ok.ensures.of_string.ordered;
      one_set = c.in-Ok.ensures.of_string.one_set;
      below = λ i d lt. (c.in-Ok.ensures.of_string.places _ (Contains-get_or (clusters glyphs.items) i d lt)).within;
    }

pub returns-in-Err-clause-length : goal.returns-in-Err-clause-length
returns-in-Err-clause-length g c = λ is.
    let cause : c.in-Err.fault.cause ≡ Length = cc in
    elim (c.in-Err.ensures.length cause) [
      | inl many ↦ absurd (let few = c.requires in omega (arith, many, few))
      | inr passes ↦ passes
    ]
