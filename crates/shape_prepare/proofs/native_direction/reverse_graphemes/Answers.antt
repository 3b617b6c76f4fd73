use Rattle.std.proofs.Common.{◌≡◌, length, ap, ◌∙◌, arith}
use Rattle.std.proofs.lemmas.List.{length-reverse}
use Rattle.shape_items.specs.Buffer.{Buffer, limit_of}
use Rattle.shape_common.specs.Direction.{reverse_of}
use Rattle.shape_common.specs.declared.text_types.Direction.{Direction}
use Rattle.shape_prepare.proofs.Spans.ReversalLemmas.{reversed_over, reversed-whole}
use Rattle.shape_prepare.proofs.native_direction.reverse_graphemes.Goals as goal

pub returns : goal.returns
returns c =
    let b = c.args.buffer.now in
    let mid = c.reverse_within_graphemes.new.buffer in
    let rev = c.reverse.new.self in
    let over = c.set_direction.ensures
    ∙ ap (λ (d : Direction). record rev { direction = d }) (c.reverse-direction.ensures ∙ ap reverse_of c.direction.ensures)
    ∙ ap (λ (r : Buffer). record r { direction = reverse_of r.direction }) c.reverse.ensures in
    let size : length c.set_direction.new.self.items ≡ length mid.items = ap (λ (r : Buffer). length r.items) over
    ∙ length-reverse mid.items in
    record {
      made = over ∙ ap reversed_over c.reverse_within_graphemes.ensures.reversed.made ∙ reversed-whole b c.reverse_within_graphemes.ensures.as_many;
      no_longer = omega (arith, c.reverse_within_graphemes.ensures.reversed.no_longer);
      same_limit = ap limit_of over ∙ c.reverse_within_graphemes.ensures.reversed.same_limit;
    }
