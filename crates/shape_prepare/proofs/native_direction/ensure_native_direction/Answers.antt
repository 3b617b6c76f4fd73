use Rattle.std.proofs.Common.{◌≡◌, ◌≢◌, ◌≤◌, true, false, length, sym, ap, ap₂, ◌∙◌, rules, arith}
use Rattle.shape_items.specs.Buffer.{Buffer, limit_of}
use Rattle.shape_common.specs.declared.text_types.BufferClusterLevel.TheVariants.{MonotoneCharacters}
use Rattle.shape_prepare.specs.NativeOrder.{natively_ordered, is_against, graphemes_reversed}
use Rattle.shape_prepare.proofs.StepLemmas.{Made-same, natively_ordered-kept, natively_ordered-reversed, merged_to_reverse-merged, merged_to_reverse-kept}
use Rattle.shape_prepare.proofs.native_direction.ensure_native_direction.Goals as goal
use Rattle.shape_prepare.proofs.native_direction.ensure_native_direction.Goals.{then-eq, else-eq}

pub returns-then-not-is_against : goal.returns-then-not-is_against
returns-then-not-is_against g c =
    let unicode = g.U.hb_unicode_funcs_t.unicode in
    let b = c.args.buffer.now in
    let told = sym (ap₂ is_against c.native_direction-native.ensures c.direction.ensures) ∙ sym c.is_against.ensures in
    let off : c.is_against.result ≡ false = search rules in
    Made-same (natively_ordered unicode) b (natively_ordered-kept unicode b (told ∙ off))

pub returns : goal.returns
returns g c =
    let unicode = g.U.hb_unicode_funcs_t.unicode in
    let b = c.args.buffer.now in
    let told = sym (ap₂ is_against c.native_direction-native.ensures c.direction.ensures) ∙ sym c.is_against.ensures in
    let on : c.is_against.result ≡ true = search rules in
    let reverses = sym (natively_ordered-reversed unicode b (told ∙ on)) in
    elim c.if-eq.branch [
      | then-eq w ↦
          let level : b.cluster_level ≡ MonotoneCharacters = search rules in
          let merged = w.buffer-is ∙ w.merge_graphemes.ensures.made ∙ sym (merged_to_reverse-merged b level) in
          let size : length c.if-eq.buffer.items ≤ length b.items = rw w.buffer-is w.merge_graphemes.ensures.no_longer in
          record {
            made = c.reverse_graphemes.ensures.made ∙ ap graphemes_reversed merged ∙ reverses;
            no_longer = omega (arith, c.reverse_graphemes.ensures.no_longer);
            same_limit = c.reverse_graphemes.ensures.same_limit ∙ ap limit_of w.buffer-is ∙ w.merge_graphemes.ensures.same_limit;
          }
      | else-eq w ↦
          let level : b.cluster_level ≢ MonotoneCharacters = search rules in
          let size : length c.if-eq.buffer.items ≡ length b.items = ap (λ (b : Buffer). length b.items) w.buffer-is in
          record {
            made = c.reverse_graphemes.ensures.made ∙ ap graphemes_reversed (w.buffer-is ∙ sym (merged_to_reverse-kept b level)) ∙ reverses;
            no_longer = omega (arith, c.reverse_graphemes.ensures.no_longer);
            same_limit = c.reverse_graphemes.ensures.same_limit ∙ ap limit_of w.buffer-is;
          }
    ]
