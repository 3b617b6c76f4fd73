use Rattle.std.proofs.Common.{◌≡◌, ◌+◌, ◌<◌, ◌≤◌, ◌∷◌, List, length, get_or, drop, map, fold, set, refl, sym, ap, ap₂, ◌∙◌, arith}
use Rattle.std.proofs.lemmas.Grind.{common_steps}
use Rattle.std.proofs.lemmas.List.{drop_more, drop-set-lt, drop_all}
use Rattle.shape_items.specs.Buffer.{Buffer, limit_of}
use Rattle.shape_items.specs.Items.{Item}
use Rattle.shape_common.specs.Unicode.{UnicodeMeaning}
use Rattle.shape_common.specs.declared.flags.ScratchFlags.{ScratchFlags}
use Rattle.shape_items.specs.UnicodeProps.{with_unicode_props}
use Rattle.shape_buffer.proofs.Loops.WalkOverLemmas.{with_rest, walk_step, walk_end}
use Rattle.shape_prepare.specs.Graphemes.{graphemes_marked, continuations_marked, continues, with_continuation, is_to_next, seen_item}
use Rattle.shape_prepare.specs.declared.graphemes.Before.{Before}
use Rattle.shape_prepare.proofs.graphemes.set_unicode_props.Goals as goal

abbrev marking : UnicodeMeaning → Before → List Item → List Item
marking unicode before items = continuations_marked unicode before (map (with_unicode_props unicode) items)

pub loop-i-init : goal.loop-i-init
loop-i-init g c = record {
  as_many = refl;
  items = refl;
  flags = ap (λ s. fold (seen_item g.U.hb_unicode_funcs_t.unicode) s c.args.buffer.now.items) c.scratch_flags-scratch_flags.ensures;
}

pub loop-i-preserved : goal.loop-i-preserved
loop-i-preserved g c =
    let unicode = g.U.hb_unicode_funcs_t.unicode in
    let i = c.loop-i.i in
    let b = c.loop-i.buffer in
    let x = c.index-infos-i.result in
    let y = c.mark_item-before.new.info in
    let before = c.loop-i.before in
    let seen = c.mark_item-before.new.scratch_flags in
    let props = with_unicode_props unicode x in
    let size : length b.items ≡ length c.args.buffer.now.items = c.loop-i.invariant.as_many in
    let within : i < length b.items = omega arith in
    let read : x ≡ get_or b.items i x = c.index-infos-i.is ∙ ap (λ xs. get_or xs i x) c.infos.ensures in
    let here : drop i b.items ≡ x ∷ drop (i + 1) b.items = drop_more b.items i x within ∙ ap (λ z. z ∷ drop (i + 1) b.items) (sym read) in
    let wrote = c.mark_item-before.ensures.item in
    let next = c.mark_item-before.ensures.next in
    let step = walk_step (marking unicode before) (marking unicode (is_to_next unicode before props)) i b x
    (with_continuation (continues unicode before props) props) within read refl in
    record {
      as_many = grind (arith, common_steps);
      items = ap (with_rest (marking unicode c.mark_item-before.result) (i + 1)) c.set_info.ensures
          ∙ ap₂ (λ (before : Before) (y : Item). with_rest (marking unicode before) (i + 1)
          (record b { items = set b.items i y })) next wrote
          ∙ step ∙ c.loop-i.invariant.items;
      flags = ap (λ (b : Buffer). fold (seen_item unicode) seen (drop (i + 1) b.items)) c.set_info.ensures
          ∙ ap (fold (seen_item unicode) seen) (drop-set-lt (i + 1) b.items i y (omega arith))
          ∙ ap (λ s. fold (seen_item unicode) s (drop (i + 1) b.items)) c.mark_item-before.ensures.flags
          ∙ sym (ap (fold (seen_item unicode) c.loop-i.scratch_flags) here)
          ∙ c.loop-i.invariant.flags;
    }

pub returns : goal.returns
unfolding graphemes_marked
returns g c =
    let unicode = g.U.hb_unicode_funcs_t.unicode in
    let i = c.loop-i.i in
    let b = c.loop-i.buffer in
    let size : length b.items ≡ length c.args.buffer.now.items = c.loop-i.invariant.as_many in
    let over : length b.items ≤ i = omega arith in
    let end = walk_end (marking unicode c.loop-i.before) i b over refl in
    let seen = sym (ap (fold (seen_item unicode) c.loop-i.scratch_flags) (drop_all i b.items over)) ∙ c.loop-i.invariant.flags in
    let whole : c.set_scratch_flags.new.self ≡ graphemes_marked unicode c.args.buffer.now =
    c.set_scratch_flags.ensures
    ∙ ap₂ (λ (b : Buffer) (s : ScratchFlags). record b { scratch_flags = s }) (sym end ∙ c.loop-i.invariant.items) seen in
    let same : length c.set_scratch_flags.new.self.items
    ≡ length b.items = ap (λ (b : Buffer). length b.items) c.set_scratch_flags.ensures in
    record { made = whole; no_longer = omega arith; same_limit = ap limit_of whole }
